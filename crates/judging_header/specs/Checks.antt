-- What a group's header decides, in the shape of the code. Assumes nothing.
use Rattle.std.specs.Prelude.{ℕ, zero, suc}
use Rattle.format.specs.declared.Verdict.{Verdict}
use Rattle.format.specs.declared.Verdict.TheVariants.{Refused}
use Rattle.format.specs.Judging.{unless, is_shortest}

-- 11, 18
unfoldable pub group_checks : ℕ → ℕ → ℕ → Verdict
group_checks h units zero = Refused 11 0
group_checks h units (suc l) = unless 18 (is_shortest h units)
