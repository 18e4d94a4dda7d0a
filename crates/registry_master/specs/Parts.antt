-- The part of format's `opening` that selector `1` begins. Assumes nothing.
use Rattle.std.specs.Prelude.{ℕ, eqb}
use Rattle.base.specs.Pick.{pick}
use Rattle.format.specs.declared.Opening.{Opening}
use Rattle.format.specs.declared.Opening.TheVariants.{Unknown}
use Rattle.format.specs.Registry.{fixed}

unfoldable pub pad0_opening : ℕ → ℕ → ℕ → Opening
pad0_opening b c d = pick (eqb b 0) (pick (eqb c 0) (fixed 4 d) Unknown) Unknown
