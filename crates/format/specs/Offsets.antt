-- 01: "A text offset and a binary offset are never interchangeable numbers", with the four-to-three conversion between them.
-- An offset within a unit goes to the unit's start. Assumes nothing.
use Rattle.std.specs.Prelude.{ℕ, ◌*◌, ◌/◌, leb}
use Rattle.base.specs.Pick.{pick}
use Rattle.format.specs.Units.{Domain, text, binary}
use Rattle.format.specs.declared.TextOffset.{TextOffset}
use Rattle.format.specs.declared.BinaryOffset.{BinaryOffset}
use Rattle.std.specs.Prelude.{Some, None, Option}

abbrev pub text_offset : ℕ → TextOffset
text_offset n = record { 0 = n }

abbrev pub binary_offset : ℕ → BinaryOffset
binary_offset n = record { 0 = n }

-- an offset of one form as one of the other, u and v being their units
abbrev pub rescaled : ℕ → ℕ → ℕ → ℕ
rescaled u v n = n / u * v

unfoldable pub offset_in_binary : TextOffset → BinaryOffset
offset_in_binary t = binary_offset (rescaled 4 3 t.0)

-- none for an offset past the longest binary stream, whose text would be longer than the longest text
unfoldable pub offset_in_text : BinaryOffset → Option TextOffset
offset_in_text b = pick (leb b.0 binary.limit) (Some (text_offset (rescaled 3 4 b.0))) None
