-- The parts of format's `opening` that the selectors of variable values begin. Assumes nothing.
use Rattle.std.specs.Prelude.{ℕ, ◌+◌, ◌*◌, eqb}
use Rattle.base.specs.Pick.{pick}
use Rattle.format.specs.declared.Kind.TheVariants.{Variable}
use Rattle.format.specs.declared.Opening.{Opening}
use Rattle.format.specs.declared.Opening.TheVariants.{Unknown, Short, LargeVariable}
use Rattle.format.specs.Registry.{is_type}

unfoldable pub small_variable : ℕ → ℕ → ℕ → ℕ → Opening
small_variable lead t c d = pick (is_type t) (Short (Variable t lead (c * 64 + d)) (1 + (c * 64 + d))) Unknown

unfoldable pub large_variable : ℕ → ℕ → ℕ → ℕ → Opening
large_variable lead b c d = pick (eqb b 0) (pick (eqb c 0) (pick (is_type d) (LargeVariable d lead) Unknown) Unknown) Unknown
