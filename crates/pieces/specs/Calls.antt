-- 02 f: the calls. "Refusals come in the order 13, 1, 3; a refused call takes nothing in and writes nothing. Refusal 3 is given exactly
-- when the rows that a piece, or the end, completes don't fit." Assumes nothing.
use Rattle.std.specs.Prelude.{ℕ, ◌+◌, ◌*◌, ◌/◌, List, ◌++◌, Bool, true, false, length, get_or, drop, ltb, leb, eqb}
use Rattle.base.specs.Pick.{pick}
use Rattle.format.specs.Units.{Domain}
use Rattle.format.specs.Report.{row_bytes, refusal_bytes, remainder_bytes, concat}
use Rattle.walk_state.specs.Walking.{all_below}
use Rattle.walk_state.specs.Walking as W
use Rattle.pieces.specs.declared.Phase.{Phase}
use Rattle.pieces.specs.declared.Phase.TheVariants as P
use Rattle.pieces.specs.declared.Progress.{Progress}
use Rattle.pieces.specs.declared.Pieces.{Pieces}
use Rattle.pieces.specs.declared.Fed.{Fed}
use Rattle.pieces.specs.declared.Closed.{Closed}
use Rattle.pieces.specs.Headers.{endless}
use Rattle.pieces.specs.Feeding.{fed, items_out, refusals_out, taken, remainder_out}
use Rattle.std.specs.Prelude.{Ok, Err, Result}
use Rattle.format.specs.declared.Refusal.{Refusal}
use Rattle.format.specs.Refusals.{refused_by}
use Rattle.pieces.specs.declared.Rows.{Rows}

-- ---- 13: the conditions

-- the end was not told
unfoldable pub is_open : Phase → Bool
is_open P.Framing = true
is_open P.Unframed = true
is_open P.Ended = false

-- units of the longest stream
unfoldable pub most_units : Domain → ℕ
most_units d = d.limit / d.unit

-- the walk is fit for a stream as long as any header may ask for; the item under way starts within what was read, behind one unit an item
-- at least; its place is within what was read, and there are two lead bytes at most
unfoldable pub progress_fits : Progress → ℕ → Bool
progress_fits p most =
    pick (is_open p.phase)
    (pick (W.is_fit p.walk (most + endless))
    (pick (leb p.start p.read)
    (pick (leb p.items p.start)
    (pick (leb p.place (4 * p.read + 3))
    (leb p.lead 2)
    false)
    false)
    false)
    false)
    false

-- an unused place is 0
unfoldable pub place_fits : List ℕ → ℕ → ℕ → Bool
place_fits held count k = pick (ltb k count) true (eqb (get_or held k 0) 0)

-- the state is of this form; fewer elements than a unit are held, and unused places are 0; no more was taken in than the limit
unfoldable pub is_fit : Domain → Pieces → Bool
is_fit d st =
    pick (eqb st.unit d.unit)
    (pick (progress_fits st.progress (most_units d))
    (pick (ltb st.count d.unit)
    (pick (all_below (place_fits st.held st.count) 4)
    (leb (taken d st) d.limit)
    false)
    false)
    false)
    false

-- ---- a piece: 13, 1, 3

-- room, room': of the buffers for item rows and for refusal rows
unfoldable pub feed_answer : Domain → Pieces → List ℕ → ℕ → ℕ → Result Rows (Refusal ℕ)
feed_answer d st piece room room' =
    pick (is_fit d st)
    (pick (ltb d.limit (taken d st + length piece)) (refused_by 1 0)
    (pick (ltb room (9 * length (items_out d st piece))) (refused_by 3 0)
    (pick (ltb room' (9 * length (refusals_out d st piece))) (refused_by 3 0)
    (Ok (record { items = 9 * length (items_out d st piece); refusals = 9 * length (refusals_out d st piece) })))))
    (refused_by 13 0)

unfoldable pub feed_state : Result Rows (Refusal ℕ) → Domain → Pieces → List ℕ → Pieces
feed_state (Ok rows) d st piece = fed d st piece
feed_state (Err e) d st piece = st

unfoldable pub feed : Domain → Pieces → List ℕ → ℕ → ℕ → Fed
feed d st piece room room' =
    let g : Result Rows (Refusal ℕ) = feed_answer d st piece room room' in
    record { next = feed_state g d st piece; given = g }

-- what the two buffers hold afterwards
unfoldable pub items_left : Result Rows (Refusal ℕ) → Domain → Pieces → List ℕ → List ℕ → List ℕ
items_left (Ok rows) d st piece out = concat row_bytes (items_out d st piece) ++ drop rows.items out
items_left (Err e) d st piece out = out

unfoldable pub refusals_left : Result Rows (Refusal ℕ) → Domain → Pieces → List ℕ → List ℕ → List ℕ
refusals_left (Ok rows) d st piece out = concat refusal_bytes (refusals_out d st piece) ++ drop rows.refusals out
refusals_left (Err e) d st piece out = out

-- ---- the end: 13, 3

abbrev pub ended_progress : Progress → Progress
ended_progress p = record {
  walk = p.walk;
  read = p.read;
  header = p.header;
  scans = p.scans;
  lead = p.lead;
  text = p.text;
  number = p.number;
  place = p.place;
  start = p.start;
  items = p.items;
  phase = P.Ended;
}

unfoldable pub ended : Pieces → Pieces
ended st = record { unit = st.unit; progress = ended_progress st.progress; held = st.held; count = st.count }

unfoldable pub end_answer : Domain → Pieces → ℕ → Result ℕ (Refusal ℕ)
end_answer d st room =
    pick (is_fit d st)
    (pick (ltb room (5 * length (remainder_out d st))) (refused_by 3 0) (Ok (5 * length (remainder_out d st))))
    (refused_by 13 0)

unfoldable pub end_state : Result ℕ (Refusal ℕ) → Pieces → Pieces
end_state (Ok n) st = ended st
end_state (Err e) st = st

unfoldable pub finish : Domain → Pieces → ℕ → Closed
finish d st room = let c : Result ℕ (Refusal ℕ) = end_answer d st room in record { next = end_state c st; closing = c }

unfoldable pub remainder_left : Result ℕ (Refusal ℕ) → Domain → Pieces → List ℕ → List ℕ
remainder_left (Ok n) d st out = concat remainder_bytes (remainder_out d st) ++ drop n out
remainder_left (Err e) d st out = out
