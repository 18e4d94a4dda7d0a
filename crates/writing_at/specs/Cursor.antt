-- 01, "A second item goes into the rest of the buffer behind the first": it is written into the part from the cursor on, whose room
-- is what is left there, none past the buffer's end. The length written is counted on from the cursor, a refusal's place is not.
-- Assumes nothing.
use Rattle.std.specs.Prelude.{ℕ, ◌+◌, List, ◌++◌, length, take, drop}
use Rattle.format.specs.declared.Code.{Code}
use Rattle.format.specs.Offsets.{text_offset, binary_offset}
use Rattle.format.specs.Writing.{write_text, text_item_left, write_binary, binary_item_left}
use Rattle.std.specs.Prelude.{Ok, Err, Result}
use Rattle.format.specs.declared.Refusal.{Refusal}
use Rattle.format.specs.Refusals.{refused_by}
use Rattle.format.specs.declared.TextOffset.{TextOffset}
use Rattle.format.specs.declared.BinaryOffset.{BinaryOffset}

unfoldable pub text_from : ℕ → Result TextOffset (Refusal ℕ) → Result TextOffset (Refusal ℕ)
text_from at (Ok n) = Ok (text_offset (at + n.0))
text_from at (Err e) = refused_by e.number e.place

unfoldable pub binary_from : ℕ → Result BinaryOffset (Refusal ℕ) → Result BinaryOffset (Refusal ℕ)
binary_from at (Ok n) = Ok (binary_offset (at + n.0))
binary_from at (Err e) = refused_by e.number e.place

-- into a buffer that held d, from at on
unfoldable pub write_text_at : Code → List ℕ → ℕ → List ℕ → List ℕ → ℕ → Result TextOffset (Refusal ℕ)
write_text_at code tag tags raw d at = text_from at (write_text code tag tags raw (length (drop at d)))

unfoldable pub write_binary_at : Code → List ℕ → ℕ → List ℕ → List ℕ → ℕ → Result BinaryOffset (Refusal ℕ)
write_binary_at code tag tags raw d at = binary_from at (write_binary code tag tags raw (length (drop at d)))

-- what the buffer holds afterwards: what stands before the cursor stays
unfoldable pub text_left_at : Code → List ℕ → ℕ → List ℕ → List ℕ → ℕ → List ℕ
text_left_at code tag tags raw d at = take at d ++ text_item_left (write_text code tag tags raw (length (drop at d))) code tag tags raw (drop at d)

unfoldable pub binary_left_at : Code → List ℕ → ℕ → List ℕ → List ℕ → ℕ → List ℕ
binary_left_at code tag tags raw d at = take at d ++ binary_item_left (write_binary code tag tags raw (length (drop at d))) code tag tags raw (drop at d)
