-- Behind a step of the walk a reader stands at the step's next state, whatever it found. Assumes nothing.
use Rattle.std.specs.Prelude.{ℕ, ◌≡◌, refl, List}
use Rattle.std.proofs.Common.{sym}
use Rattle.format.specs.Units.{text, binary}
use Rattle.walk_state.specs.declared.Walk.{Walk}
use Rattle.walk_state.specs.declared.Found.{Found}
use Rattle.walk_state.specs.declared.Found.TheVariants as F
use Rattle.walk_state.specs.Walking.{step_in, text_item, text_step, binary_item, binary_step}
use Rattle.walk_claims.specs.Words.{Stops}
use Rattle.walk_claims.proofs.Proved.{proved}
use Rattle.reader_place.specs.Place.{text_behind, binary_behind}

text-behind : (f : Found ℕ) (w next : Walk) → (Stops f → next ≡ w) → text_behind (text_item f) w next ≡ next
unfolding text_item text_behind
text-behind (F.Item o n d k h) w next e = refl
text-behind (F.Refused m p) w next e = sym (e tt)
text-behind F.End w next e = sym (e tt)

pub text-stands : (xs : List ℕ) (w : Walk) → text_behind (text_step xs w).found w (text_step xs w).next ≡ (text_step xs w).next
unfolding text_step
text-stands xs w = text-behind (step_in text xs w).found w (step_in text xs w).next ((proved.of-text xs).stays w)

binary-behind : (f : Found ℕ) (w next : Walk) → (Stops f → next ≡ w) → binary_behind (binary_item f) w next ≡ next
unfolding binary_item binary_behind
binary-behind (F.Item o n d k h) w next e = refl
binary-behind (F.Refused m p) w next e = sym (e tt)
binary-behind F.End w next e = sym (e tt)

pub binary-stands : (xs : List ℕ) (w : Walk) → binary_behind (binary_step xs w).found w (binary_step xs w).next ≡ (binary_step xs w).next
unfolding binary_step
binary-stands xs w = binary-behind (step_in binary xs w).found w (step_in binary xs w).next ((proved.of-binary xs).stays w)
