-- Reading of indexed items as C has it: the answers as numbers, and what the places lent for them hold afterwards. A code is two
-- characters: a selector, 0 where the letter stands alone, and a letter. Written items are told as primitives are. Assumes nothing.
use Rattle.std.specs.Prelude.{ℕ, List, [], ◌∷◌}
use Rattle.format.specs.declared.IndexCode.{IndexCode}
use Rattle.format.specs.declared.IndexedItem.{IndexedItem}
use Rattle.std.specs.Prelude.{Ok, Err, Result}
use Rattle.format.specs.declared.Refusal.{Refusal}
use Rattle.format.specs.declared.TextOffset.{TextOffset}
use Rattle.format.specs.declared.BinaryOffset.{BinaryOffset}

abbrev pub index_code_from : ℕ → ℕ → IndexCode
index_code_from selector letter = record { selector = selector; letter = letter }

-- selector and letter of the code, full size in units, where the raw value starts in bytes of the binary form from the item's start, its
-- length, index and ondex
unfoldable pub info_of : IndexedItem → List ℕ
info_of p = p.code.selector ∷ p.code.letter ∷ p.size ∷ p.start.0 ∷ p.raw ∷ p.index ∷ p.ondex ∷ []

-- 0 and the raw value's length, or 01's number and the place; a refused call leaves info as it was
unfoldable pub text_number : Result IndexedItem (Refusal TextOffset) → ℕ
text_number (Ok p) = 0
text_number (Err e) = e.number

unfoldable pub text_value : Result IndexedItem (Refusal TextOffset) → ℕ
text_value (Ok p) = p.raw
text_value (Err e) = e.place.0

unfoldable pub text_info : Result IndexedItem (Refusal TextOffset) → List ℕ → List ℕ
text_info (Ok p) before = info_of p
text_info (Err e) before = before

unfoldable pub binary_number : Result IndexedItem (Refusal BinaryOffset) → ℕ
binary_number (Ok p) = 0
binary_number (Err e) = e.number

unfoldable pub binary_value : Result IndexedItem (Refusal BinaryOffset) → ℕ
binary_value (Ok p) = p.raw
binary_value (Err e) = e.place.0

unfoldable pub binary_info : Result IndexedItem (Refusal BinaryOffset) → List ℕ → List ℕ
binary_info (Ok p) before = info_of p
binary_info (Err e) before = before
