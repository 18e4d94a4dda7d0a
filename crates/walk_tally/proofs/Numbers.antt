-- 01: "Where an answer is an enum, a definition gives this paper's number and values for every one of its cases": of a counted walk. 0 and
-- no place where it ended, else the refusal's number and place. Assumes nothing.
use Rattle.std.specs.Prelude.{ℕ, None, Some, Option}
use Rattle.format.specs.declared.Refusal.{Refusal}
use Rattle.format.specs.declared.TextOffset.{TextOffset}
use Rattle.format.specs.declared.BinaryOffset.{BinaryOffset}

unfoldable pub text_end_number : Option (Refusal TextOffset) → ℕ
text_end_number None = 0
text_end_number (Some e) = e.number

unfoldable pub text_end_place : Option (Refusal TextOffset) → ℕ
text_end_place None = 0
text_end_place (Some e) = e.place.0

unfoldable pub binary_end_number : Option (Refusal BinaryOffset) → ℕ
binary_end_number None = 0
binary_end_number (Some e) = e.number

unfoldable pub binary_end_place : Option (Refusal BinaryOffset) → ℕ
binary_end_place None = 0
binary_end_place (Some e) = e.place.0
