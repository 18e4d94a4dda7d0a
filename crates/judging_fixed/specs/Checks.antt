-- What the header and first sextets of a fixed code's item decide, in the shape of the code. Assumes nothing.
use Rattle.std.specs.Prelude.{ℕ, List}
use Rattle.format.specs.declared.CodeRow.{CodeRow}
use Rattle.format.specs.declared.Verdict.{Verdict}
use Rattle.format.specs.Registry.{zero_bits_of, prepad_of}
use Rattle.format.specs.Judging.{and_then, unless, zero_bits, prepad_right}

-- 8, 10
unfoldable pub fixed_checks : CodeRow → List ℕ → Verdict
fixed_checks c cs = and_then (unless 8 (zero_bits cs c.chars (zero_bits_of c))) (unless 10 (prepad_right cs c.chars (prepad_of c)))
