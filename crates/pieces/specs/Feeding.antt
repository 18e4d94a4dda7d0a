-- 02 f: a piece more, and the end. "Keep only the state and at most two units between pieces." Assumes nothing.
use Rattle.std.specs.Prelude.{ℕ, zero, suc, ◌+◌, ◌-◌, ◌*◌, ◌/◌, List, [], ◌∷◌, ◌++◌, Bool, true, false, length, take, drop, replicate, ltb}
use Rattle.base.specs.Pick.{pick}
use Rattle.format.specs.Units.{Domain}
use Rattle.format.specs.Report.{ItemRow, RefusalRow, RemainderRow, refusals_of}
use Rattle.pieces.specs.declared.Phase.{Phase}
use Rattle.pieces.specs.declared.Phase.TheVariants as P
use Rattle.pieces.specs.declared.Progress.{Progress}
use Rattle.pieces.specs.declared.Pieces.{Pieces}
use Rattle.pieces.specs.Steps.{none4, clear, unit_step, rows_from, told}

-- ---- units one by one

-- the first k units of the sextets s, and the item rows that come with them
unfoldable pub after : Progress → List ℕ → ℕ → Progress
after p s zero = p
after p s (suc k) = told (unit_step (after p s k) (take 4 (drop (4 * k) s)))

unfoldable pub rows_after : ℕ → Progress → List ℕ → ℕ → List ItemRow
rows_after u p s zero = []
rows_after u p s (suc k) = rows_after u p s k ++ rows_from u (unit_step (after p s k) (take 4 (drop (4 * k) s)))

-- ---- before the first piece

unfoldable pub begin : Progress
begin = record {
  walk = clear 0;
  read = 0;
  header = none4;
  scans = false;
  lead = 0;
  text = false;
  number = 0;
  place = 0;
  start = 0;
  items = 0;
  phase = P.Framing;
}

unfoldable pub start : Domain → Pieces
start d = record { unit = d.unit; progress = begin; held = none4; count = 0 }

-- ---- a piece

-- what is held, and the piece behind it
abbrev pub held_and : Pieces → List ℕ → List ℕ
held_and st piece = take st.count st.held ++ piece

-- a state that holds the elements behind the last whole unit
abbrev pub holding : ℕ → Progress → List ℕ → Pieces
holding u p rest = record { unit = u; progress = p; held = rest ++ replicate (4 - length rest) 0; count = length rest }

-- the state with a piece more
unfoldable pub fed : Domain → Pieces → List ℕ → Pieces
fed d st piece =
    let xs : List ℕ = held_and st piece in
    let k : ℕ = length xs / d.unit in
    holding st.unit (after st.progress (d.sextets xs) k) (drop (k * d.unit) xs)

-- the item rows that it completes
unfoldable pub items_out : Domain → Pieces → List ℕ → List ItemRow
items_out d st piece =
    let xs : List ℕ = held_and st piece in
    rows_after d.unit st.progress (d.sextets xs) (length xs / d.unit)

-- and the refusal rows
unfoldable pub refusals_out : Domain → Pieces → List ℕ → List RefusalRow
refusals_out d st piece = refusals_of st.progress.items (items_out d st piece)

-- elements taken in
abbrev pub taken : Domain → Pieces → ℕ
taken d st = st.progress.read * d.unit + st.count

-- ---- the end: what is under way is cut off, which is 4

unfoldable pub number_at : Phase → ℕ → ℕ
number_at P.Framing number = 4
number_at P.Unframed number = number
number_at P.Ended number = number

unfoldable pub remainder_out : Domain → Pieces → List RemainderRow
remainder_out d st =
    let p : Progress = st.progress in
    pick (ltb (p.start * d.unit) (taken d st))
    (record { offset = p.start * d.unit; number = number_at p.phase p.number } ∷ []) []
