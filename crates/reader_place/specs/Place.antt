-- Where a reader stands behind a step: at its next state where it found an item; "At a refusal or the end the state stays as it was."
-- Assumes nothing.
use Rattle.walk_state.specs.declared.Walk.{Walk}
use Rattle.walk_state.specs.declared.Found.{Found}
use Rattle.walk_state.specs.declared.Found.TheVariants as T
use Rattle.format.specs.declared.TextOffset.{TextOffset}
use Rattle.format.specs.declared.BinaryOffset.{BinaryOffset}

-- by what a step from a state found, and its next state
unfoldable pub text_behind : Found TextOffset → Walk → Walk → Walk
text_behind (T.Item o n d k h) w next = next
text_behind (T.Refused m p) w next = w
text_behind T.End w next = w

unfoldable pub binary_behind : Found BinaryOffset → Walk → Walk → Walk
binary_behind (T.Item o n d k h) w next = next
binary_behind (T.Refused m p) w next = w
binary_behind T.End w next = w
