-- What the header and first sextets of an indexed item decide, in the shape of the code. Assumes nothing.
use Rattle.std.specs.Prelude.{ℕ, List}
use Rattle.format.specs.declared.IndexRow.{IndexRow}
use Rattle.format.specs.declared.Verdict.{Verdict}
use Rattle.format.specs.Registry.{index_chars}
use Rattle.format.specs.Values.{ondex_of}
use Rattle.format.specs.Judging.{and_then, unless, zero_bits, ondex_right}

-- 8, 15
unfoldable pub indexed_checks : IndexRow → List ℕ → Verdict
indexed_checks c cs = and_then (unless 8 (zero_bits cs (index_chars c) c.zeros)) (unless 15 (ondex_right c (ondex_of c cs)))
