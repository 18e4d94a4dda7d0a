-- What C sees of a piece and of the end: a number, 0 for taken in, and the lengths written. Assumes nothing.
use Rattle.std.specs.Prelude.{ℕ, ◌≡◌, List, [], ◌∷◌}
use Rattle.pieces.specs.declared.Pieces.{Pieces}
use Rattle.exports_pieces_state.specs.Numbers.{numbers_of}
use Rattle.std.specs.Prelude.{Ok, Err, Result}
use Rattle.format.specs.declared.Refusal.{Refusal}
use Rattle.pieces.specs.declared.Rows.{Rows}

-- ---- a piece

unfoldable pub given_number : Result Rows (Refusal ℕ) → ℕ
given_number (Ok rows) = 0
given_number (Err e) = e.number

-- of item rows and of refusal rows
unfoldable pub given_lengths : Result Rows (Refusal ℕ) → List ℕ
given_lengths (Ok rows) = rows.items ∷ rows.refusals ∷ []
given_lengths (Err e) = 0 ∷ 0 ∷ []

-- the numbers that were lent, also those that are no state's, stay at a refusal
unfoldable pub fed_numbers : Result Rows (Refusal ℕ) → Pieces → List ℕ → List ℕ
fed_numbers (Ok rows) next before = numbers_of next
fed_numbers (Err e) next before = before

-- a state that a call was refused for stays
abbrev pub Kept : Result Rows (Refusal ℕ) → Pieces → Pieces → Type 0
Kept (Ok rows) next st = Unit {0}
Kept (Err e) next st = next ≡ st

-- ---- the end

unfoldable pub closing_number : Result ℕ (Refusal ℕ) → ℕ
closing_number (Ok n) = 0
closing_number (Err e) = e.number

unfoldable pub closing_length : Result ℕ (Refusal ℕ) → ℕ
closing_length (Ok n) = n
closing_length (Err e) = 0

unfoldable pub ended_numbers : Result ℕ (Refusal ℕ) → Pieces → List ℕ → List ℕ
ended_numbers (Ok n) next before = numbers_of next
ended_numbers (Err e) next before = before

abbrev pub Stayed : Result ℕ (Refusal ℕ) → Pieces → Pieces → Type 0
Stayed (Ok n) next st = Unit {0}
Stayed (Err e) next st = next ≡ st
