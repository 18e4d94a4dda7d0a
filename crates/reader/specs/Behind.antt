-- The reader behind a step stands at the step's next state, whatever it found. Assumes nothing.
use Rattle.std.specs.Prelude.{◌≡◌}
use Rattle.std.proofs.Common.{ap}
use Rattle.walk_state.specs.declared.Walk.{Walk}
use Rattle.walk_state.specs.declared.Stepped.{Stepped}
use Rattle.walk_state.specs.Walking.{text_step, binary_step}
use Rattle.reader_place.proofs.Stands.{text-stands, binary-stands}
use Rattle.reader.specs.declared.Reader.{Reader}
use Rattle.reader.specs.declared.Taken.{Taken}
use Rattle.reader.specs.Reading.{resumed_at, text_taken, binary_taken}
use Rattle.format.specs.declared.TextOffset.{TextOffset}
use Rattle.format.specs.declared.BinaryOffset.{BinaryOffset}

-- the reader at a step's next state, and what the step found
abbrev pub text_at : Reader → Stepped TextOffset → Taken TextOffset
text_at r s = record { reader = resumed_at r s.next; found = s.found }

abbrev pub binary_at : Reader → Stepped BinaryOffset → Taken BinaryOffset
binary_at r s = record { reader = resumed_at r s.next; found = s.found }

pub text-taken : (r : Reader) → text_taken r ≡ text_at r (text_step r.src.now r.walk)
unfolding text_taken
text-taken r =
    ap (λ (w : Walk). record { reader = resumed_at r w; found = (text_step r.src.now r.walk).found }) (text-stands r.src.now r.walk)

pub binary-taken : (r : Reader) → binary_taken r ≡ binary_at r (binary_step r.src.now r.walk)
unfolding binary_taken
binary-taken r =
    ap (λ (w : Walk). record { reader = resumed_at r w; found = (binary_step r.src.now r.walk).found }) (binary-stands r.src.now r.walk)
