-- What the header and first sextets of a variable value decide, in the shape of the code. Assumes nothing.
use Rattle.std.specs.Prelude.{ℕ, ◌*◌, List}
use Rattle.format.specs.declared.Verdict.{Verdict}
use Rattle.format.specs.Judging.{and_then, unless, is_shortest, has_lead, zero_bits}
use Rattle.judging_fill.specs.Fill.{text_filled}

-- 18, 9, 8, 16
unfoldable pub variable_checks : ℕ → ℕ → ℕ → ℕ → List ℕ → Verdict
variable_checks t lead count h cs =
    and_then (unless 18 (is_shortest h count))
    (and_then (unless 9 (has_lead lead count))
    (and_then (unless 8 (zero_bits cs (4 * h) (8 * lead))) (unless 16 (text_filled t lead count h cs))))
