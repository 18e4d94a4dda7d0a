-- A refused read of a binary, and a room for any text. Assumes nothing.
use Rattle.std.specs.Prelude.{ℕ}
use Rattle.format.specs.declared.BinaryOffset.{BinaryOffset}
use Rattle.format.specs.declared.PrimitiveRead.{PrimitiveRead}
use Rattle.format.specs.Offsets.{binary_offset}
use Rattle.format.specs.Reading.{no_tag}
use Rattle.format.specs.Refusals.{refused_by}

-- a refusal has no tag characters
abbrev pub no_binary : ℕ → ℕ → PrimitiveRead BinaryOffset
no_binary m p = record { found = refused_by m (binary_offset p); tag = no_tag }

-- no text of a stream has more characters
abbrev pub any_text : ℕ
any_text = 4194304
