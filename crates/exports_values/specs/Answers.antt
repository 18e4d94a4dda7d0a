-- Reading and writing as C has them: the answers as numbers, and what the places lent for them hold afterwards. A code is two numbers:
-- chars, which is 1, 2 or 4 for a fixed code of so many characters, 5 for a small variable and 6 for a large one, and the letter as a
-- character. Assumes nothing.
use Rattle.std.specs.Prelude.{ℕ, List, [], ◌∷◌, eqb}
use Rattle.base.specs.Pick.{pick}
use Rattle.format.specs.declared.Code.{Code}
use Rattle.format.specs.declared.Code.TheVariants as C
use Rattle.format.specs.declared.Primitive.{Primitive}
use Rattle.std.specs.Prelude.{Ok, Err, Result}
use Rattle.format.specs.declared.Refusal.{Refusal}
use Rattle.format.specs.declared.TextOffset.{TextOffset}
use Rattle.format.specs.declared.BinaryOffset.{BinaryOffset}

-- ---- a code as two numbers

unfoldable pub chars_of : Code → ℕ
chars_of (C.Fixed chars letter) = chars
chars_of (C.Small letter) = 5
chars_of (C.Large letter) = 6

unfoldable pub letter_of : Code → ℕ
letter_of (C.Fixed chars letter) = letter
letter_of (C.Small letter) = letter
letter_of (C.Large letter) = letter

unfoldable pub code_from : ℕ → ℕ → Code
code_from chars letter = pick (eqb chars 5) (C.Small letter) (pick (eqb chars 6) (C.Large letter) (C.Fixed chars letter))

-- ---- reading

-- chars and letter of the code, full size in units, where the raw value starts in bytes of the binary form from the item's start, its
-- length, the number of tag characters, and that of a text's
unfoldable pub info_of : Primitive → List ℕ
info_of p = chars_of p.code ∷ letter_of p.code ∷ p.size ∷ p.start.0 ∷ p.raw ∷ p.tags ∷ p.text ∷ []

-- the length of the value, a text's characters or raw bytes: one of the two is 0
unfoldable pub value_size : Primitive → ℕ
value_size p = pick (eqb p.text 0) p.raw p.text

-- 0 and that length, or 01's number and the place
unfoldable pub text_found_number : Result Primitive (Refusal TextOffset) → ℕ
text_found_number (Ok p) = 0
text_found_number (Err e) = e.number

unfoldable pub text_found_value : Result Primitive (Refusal TextOffset) → ℕ
text_found_value (Ok p) = value_size p
text_found_value (Err e) = e.place.0

-- a refused call writes to neither place
unfoldable pub text_tag_left : Result Primitive (Refusal TextOffset) → List ℕ → List ℕ → List ℕ
text_tag_left (Ok p) tag before = tag
text_tag_left (Err e) tag before = before

unfoldable pub text_info_left : Result Primitive (Refusal TextOffset) → List ℕ → List ℕ
text_info_left (Ok p) before = info_of p
text_info_left (Err e) before = before

unfoldable pub binary_found_number : Result Primitive (Refusal BinaryOffset) → ℕ
binary_found_number (Ok p) = 0
binary_found_number (Err e) = e.number

unfoldable pub binary_found_value : Result Primitive (Refusal BinaryOffset) → ℕ
binary_found_value (Ok p) = value_size p
binary_found_value (Err e) = e.place.0

unfoldable pub binary_tag_left : Result Primitive (Refusal BinaryOffset) → List ℕ → List ℕ → List ℕ
binary_tag_left (Ok p) tag before = tag
binary_tag_left (Err e) tag before = before

unfoldable pub binary_info_left : Result Primitive (Refusal BinaryOffset) → List ℕ → List ℕ
binary_info_left (Ok p) before = info_of p
binary_info_left (Err e) before = before

-- ---- writing: 0 and the length written, or 01's number and the place

unfoldable pub text_written_number : Result TextOffset (Refusal ℕ) → ℕ
text_written_number (Ok n) = 0
text_written_number (Err e) = e.number

unfoldable pub text_written_value : Result TextOffset (Refusal ℕ) → ℕ
text_written_value (Ok n) = n.0
text_written_value (Err e) = e.place

unfoldable pub binary_written_number : Result BinaryOffset (Refusal ℕ) → ℕ
binary_written_number (Ok n) = 0
binary_written_number (Err e) = e.number

unfoldable pub binary_written_value : Result BinaryOffset (Refusal ℕ) → ℕ
binary_written_value (Ok n) = n.0
binary_written_value (Err e) = e.place
