-- 01: "Where an answer is an enum, a definition gives this paper's number and values for every one of its cases": a group's size with 0, else
-- the refusal's number and place. Assumes nothing.
use Rattle.std.specs.Prelude.{ℕ}
use Rattle.std.specs.Prelude.{Ok, Err, Result}
use Rattle.format.specs.declared.Refusal.{Refusal}
use Rattle.format.specs.declared.TextOffset.{TextOffset}
use Rattle.format.specs.declared.BinaryOffset.{BinaryOffset}

unfoldable pub grouped_number : Result ℕ (Refusal ℕ) → ℕ
grouped_number (Ok n) = 0
grouped_number (Err e) = e.number

unfoldable pub grouped_value : Result ℕ (Refusal ℕ) → ℕ
grouped_value (Ok n) = n
grouped_value (Err e) = e.place

unfoldable pub text_grouped_number : Result TextOffset (Refusal TextOffset) → ℕ
text_grouped_number (Ok n) = 0
text_grouped_number (Err e) = e.number

unfoldable pub text_grouped_value : Result TextOffset (Refusal TextOffset) → ℕ
text_grouped_value (Ok n) = n.0
text_grouped_value (Err e) = e.place.0

unfoldable pub binary_grouped_number : Result BinaryOffset (Refusal BinaryOffset) → ℕ
binary_grouped_number (Ok n) = 0
binary_grouped_number (Err e) = e.number

unfoldable pub binary_grouped_value : Result BinaryOffset (Refusal BinaryOffset) → ℕ
binary_grouped_value (Ok n) = n.0
binary_grouped_value (Err e) = e.place.0
