-- 01, "Numbers a vendor sees": conversion of whole streams. "T to B gives 1, 2, 5, 3; B to T 1, 2, 3. Room asked is the exact
-- size written. An accepted call writes its answer from the buffer's start; bytes behind it stay." 02 j: 19 where 5 stands. Assumes nothing.
use Rattle.std.specs.Prelude.{ℕ, suc, ◌*◌, ◌/◌, ◌%◌, List, [], ◌∷◌, ◌++◌, ltb, length, get_or, drop}
use Rattle.base.specs.Pick.{pick}
use Rattle.base.specs.Each.{each}
use Rattle.format.specs.Alphabet.{sextet_of, stranger_number}
use Rattle.format.specs.Units.{Domain, text, binary, triplet_of, quadlet_of}
use Rattle.format.specs.Offsets.{text_offset, binary_offset}
use Rattle.std.specs.Prelude.{Ok, Err, Result}
use Rattle.format.specs.declared.Refusal.{Refusal}
use Rattle.format.specs.Refusals.{refused_by}
use Rattle.format.specs.declared.TextOffset.{TextOffset}
use Rattle.format.specs.declared.BinaryOffset.{BinaryOffset}

-- a stream's whole units, each converted
unfoldable pub to_binary : List ℕ → List ℕ
to_binary s = each 4 triplet_of (length s / 4) s

unfoldable pub to_text : List ℕ → List ℕ
to_text s = each 3 quadlet_of (length s / 3) s

-- the place of the first character outside the alphabet, or the length where there is none
unfoldable pub first_stranger : List ℕ → ℕ
first_stranger [] = 0
first_stranger (c ∷ s) = pick (ltb (sextet_of c) 64) (suc (first_stranger s)) 0

-- its number, 5 or 19
unfoldable pub first_number : List ℕ → ℕ
first_number s = stranger_number (sextet_of (get_or s (first_stranger s) 0))

-- ---- T to B: 1, 2, 5 or 19, 3

unfoldable pub text_to_binary : List ℕ → ℕ → Result BinaryOffset (Refusal TextOffset)
text_to_binary s room =
    pick (ltb text.limit (length s)) (refused_by 1 (text_offset 0))
    (pick (ltb 0 (length s % 4)) (refused_by 2 (text_offset 0))
    (pick (ltb (first_stranger s) (length s)) (refused_by (first_number s) (text_offset (first_stranger s)))
    (pick (ltb room (length s / 4 * 3)) (refused_by 3 (text_offset 0))
    (Ok (binary_offset (length s / 4 * 3))))))

-- the answer as numbers: 0 and the length written, or 01's number and the place
unfoldable pub to_binary_number : Result BinaryOffset (Refusal TextOffset) → ℕ
to_binary_number (Ok n) = 0
to_binary_number (Err e) = e.number

unfoldable pub to_binary_value : Result BinaryOffset (Refusal TextOffset) → ℕ
to_binary_value (Ok n) = n.0
to_binary_value (Err e) = e.place.0

-- what a buffer that held d holds afterwards
unfoldable pub binary_left : Result BinaryOffset (Refusal TextOffset) → List ℕ → List ℕ → List ℕ
binary_left (Ok n) s d = to_binary s ++ drop n.0 d
binary_left (Err e) s d = d

-- ---- B to T: 1, 2, 3

unfoldable pub binary_to_text : List ℕ → ℕ → Result TextOffset (Refusal BinaryOffset)
binary_to_text s room =
    pick (ltb binary.limit (length s)) (refused_by 1 (binary_offset 0))
    (pick (ltb 0 (length s % 3)) (refused_by 2 (binary_offset 0))
    (pick (ltb room (length s / 3 * 4)) (refused_by 3 (binary_offset 0))
    (Ok (text_offset (length s / 3 * 4)))))

unfoldable pub to_text_number : Result TextOffset (Refusal BinaryOffset) → ℕ
to_text_number (Ok n) = 0
to_text_number (Err e) = e.number

unfoldable pub to_text_value : Result TextOffset (Refusal BinaryOffset) → ℕ
to_text_value (Ok n) = n.0
to_text_value (Err e) = e.place.0

unfoldable pub text_left : Result TextOffset (Refusal BinaryOffset) → List ℕ → List ℕ → List ℕ
text_left (Ok n) s d = to_text s ++ drop n.0 d
text_left (Err e) s d = d
