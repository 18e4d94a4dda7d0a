-- What the reader's methods hand back, by the walk's definitions. Assumes nothing.
use Rattle.std.specs.Prelude.{List, ℕ}
use Rattle.std.specs.Borrow.{Bor}
use Rattle.walk_state.specs.declared.Walk.{Walk}
use Rattle.walk_state.specs.declared.Stepped.{Stepped}
use Rattle.walk_state.specs.Walking.{start, text_step, binary_step}
use Rattle.reader_place.specs.Place.{text_behind, binary_behind}
use Rattle.reader.specs.declared.Reader.{Reader}
use Rattle.reader.specs.declared.Taken.{Taken}
use Rattle.format.specs.declared.TextOffset.{TextOffset}
use Rattle.format.specs.declared.BinaryOffset.{BinaryOffset}

abbrev pub opened : Bor (List ℕ) → Reader
opened src = record { src = src; walk = start }

-- over the same stream at another state
abbrev pub resumed_at : Reader → Walk → Reader
resumed_at r w = record { src = r.src; walk = w }

-- ---- what a step found, and the reader at its place behind it

unfoldable pub text_taken : Reader → Taken TextOffset
text_taken r =
    let s : Stepped TextOffset = text_step r.src.now r.walk in
    record { reader = resumed_at r (text_behind s.found r.walk s.next); found = s.found }

unfoldable pub binary_taken : Reader → Taken BinaryOffset
binary_taken r =
    let s : Stepped BinaryOffset = binary_step r.src.now r.walk in
    record { reader = resumed_at r (binary_behind s.found r.walk s.next); found = s.found }
