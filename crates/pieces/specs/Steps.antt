-- 02 f: what one unit more makes of a state. Positions in units, places in sextets from the stream's start. Assumes nothing.
use Rattle.std.specs.Prelude.{ℕ, ◌+◌, ◌-◌, ◌*◌, List, [], ◌∷◌, ◌++◌, Bool, true, false, get_or, replicate, ltb, eqb}
use Rattle.base.specs.Pick.{pick}
use Rattle.format.specs.declared.Framed.{Framed}
use Rattle.format.specs.declared.Framed.TheVariants.{Item, Unframed}
use Rattle.format.specs.declared.Verdict.{Verdict}
use Rattle.format.specs.declared.Verdict.TheVariants.{Accepted, Refused}
use Rattle.format.specs.Judging.{scan, max_depth}
use Rattle.format.specs.Report.{ItemRow, placed}
use Rattle.walk_state.specs.declared.Walk.{Walk}
use Rattle.walk_state.specs.Walking.{moved_to, next_of}
use Rattle.pieces.specs.declared.Phase.{Phase}
use Rattle.pieces.specs.declared.Phase.TheVariants as P
use Rattle.pieces.specs.declared.Progress.{Progress}
use Rattle.pieces.specs.Headers.{room_of, is_long, framed_by, verdict_of, group_number, head_number, lead_of, opens_text, value_number}

abbrev pub none4 : List ℕ
none4 = 0 ∷ 0 ∷ 0 ∷ 0 ∷ []

-- none open, at a unit
abbrev pub clear : ℕ → Walk
clear at = record { ends = replicate max_depth 0; depth = 0; at = at; first = false; indexed = false }

-- where the top-level item ends that the walk stands in, or behind
unfoldable pub end_of : Walk → ℕ
end_of w = pick (eqb w.depth 0) w.at (get_or w.ends 0 0)

-- ---- the state with one unit more read

abbrev pub made : Progress → Walk → Bool → ℕ → Bool → ℕ → ℕ → Progress
made p w scans lead text number place = record {
  walk = w;
  read = p.read + 1;
  header = none4;
  scans = scans;
  lead = lead;
  text = text;
  number = number;
  place = place;
  start = p.start;
  items = p.items;
  phase = p.phase;
}

-- a unit that is not looked at
abbrev pub passed : Progress → Progress
passed p = made p p.walk false 0 false p.number p.place

-- refused: the rest of the top-level item is not looked at
abbrev pub refused : Progress → Walk → ℕ → ℕ → Progress
refused p w number place = made p (clear (end_of w)) false 0 false number place

-- an item that is accepted unless a stranger or its number says otherwise: at its end the number stands
unfoldable pub settled : Progress → Walk → ℕ → Bool → ℕ → ℕ → Progress
settled p w lead text number place =
    pick (ltb (p.read + 1) w.at) (made p w true lead text number place)
    (pick (eqb number 0) (made p w false 0 false 0 0) (refused p w number place))

-- the remainder begins
abbrev pub unframed : Progress → ℕ → Progress
unframed p number = record {
  walk = p.walk;
  read = p.read + 1;
  header = none4;
  scans = false;
  lead = 0;
  text = false;
  number = number;
  place = 0;
  start = p.start;
  items = p.items;
  phase = P.Unframed;
}

-- a whole header, framed
unfoldable pub headed : Progress → List ℕ → Framed → Progress
headed p cs (Unframed number i) =
    pick (eqb p.walk.depth 0) (unframed p number) (refused p p.walk number (4 * p.walk.at + i))
headed p cs (Item k h n) =
    let w : Walk = p.walk in
    pick (eqb (group_number k w.depth h n) 0)
    (settled p (next_of w k h n) (lead_of k) (opens_text k) (head_number k h cs) (4 * w.at))
    (refused p (moved_to w (w.at + n)) (group_number k w.depth h n) (4 * w.at))

-- the first unit of a header of two
abbrev pub stored : Progress → List ℕ → Progress
stored p q = record {
  walk = p.walk;
  read = p.read + 1;
  header = q;
  scans = false;
  lead = 0;
  text = false;
  number = 0;
  place = 0;
  start = p.start;
  items = p.items;
  phase = p.phase;
}

-- a header's first unit
unfoldable pub at_first : Progress → List ℕ → Progress
at_first p q = pick (is_long p.walk.indexed q (room_of p.walk)) (stored p q) (headed p q (framed_by p.walk q))

-- its second
unfoldable pub at_second : Progress → List ℕ → Progress
at_second p q = let cs : List ℕ = p.header ++ q in headed p cs (framed_by p.walk cs)

-- a unit of a value
unfoldable pub valued : Progress → List ℕ → Verdict → Progress
valued p q Accepted = settled p p.walk 0 false (value_number p.number p.lead p.text q) p.place
valued p q (Refused number i) = refused p p.walk number (4 * p.read + i)

-- a unit of four sextets
unfoldable pub step_by : Phase → Progress → List ℕ → Progress
step_by P.Framing p q =
    pick (ltb p.read p.walk.at) (pick p.scans (valued p q (scan q)) (passed p))
    (pick (ltb p.walk.at p.read) (at_second p q) (at_first p q))
step_by P.Unframed p q = passed p
step_by P.Ended p q = passed p

unfoldable pub unit_step : Progress → List ℕ → Progress
unit_step p q = step_by p.phase p q

-- ---- "an item's rows are given when its last byte has come"

-- a top-level item whose last unit was read
unfoldable pub is_whole_by : Phase → Progress → Bool
is_whole_by P.Framing p = pick (eqb p.walk.depth 0) (pick (eqb p.read p.walk.at) (ltb p.start p.read) false) false
is_whole_by P.Unframed p = false
is_whole_by P.Ended p = false

unfoldable pub is_whole : Progress → Bool
is_whole p = is_whole_by p.phase p

-- its row, u elements to the unit
abbrev pub row_of : ℕ → Progress → ItemRow
row_of u p = record { offset = p.start * u; size = (p.read - p.start) * u; verdict = placed u (verdict_of p.number p.place) }

unfoldable pub rows_from : ℕ → Progress → List ItemRow
rows_from u p = pick (is_whole p) (row_of u p ∷ []) []

-- the next item starts behind it
unfoldable pub told : Progress → Progress
told p = pick (is_whole p)
    (record {
      walk = p.walk;
      read = p.read;
      header = none4;
      scans = false;
      lead = 0;
      text = false;
      number = 0;
      place = 0;
      start = p.read;
      items = p.items + 1;
      phase = p.phase;
    })
    p
