-- What a text's length alone is refused with: 1 or 2, and 0 for neither. Assumes nothing.
use Rattle.std.specs.Prelude.{ℕ, ◌%◌, ltb}
use Rattle.base.specs.Pick.{pick}
use Rattle.format.specs.Units.{text}

unfoldable pub length_refusal : ℕ → ℕ
length_refusal n = pick (ltb text.limit n) 1 (pick (ltb 0 (n % 4)) 2 0)
