-- The part of format's `opening` that a `-` begins. Assumes nothing.
use Rattle.std.specs.Prelude.{ℕ, ◌+◌, ◌*◌, eqb}
use Rattle.base.specs.Pick.{pick}
use Rattle.format.specs.declared.Kind.TheVariants.{Group}
use Rattle.format.specs.declared.Opening.{Opening}
use Rattle.format.specs.declared.Opening.TheVariants.{Unknown, Short, LargeGroup, Version}
use Rattle.format.specs.Registry.{is_group}

unfoldable pub group_opening : ℕ → ℕ → ℕ → Opening
group_opening b c d =
    pick (is_group b) (Short (Group b) (1 + (c * 64 + d)))
    (pick (eqb b 62) (pick (is_group c) (LargeGroup c d) Unknown)
    (pick (eqb b 63) Version Unknown))
