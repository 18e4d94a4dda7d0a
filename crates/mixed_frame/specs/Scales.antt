-- An item whose header and size in elements are numbers of the machine. Assumes nothing.
use Rattle.std.specs.Prelude.{ℕ, ◌*◌, ◌≤◌, ◌≡◌}
use Rattle.format.specs.declared.Kind.{Kind}
use Rattle.format.specs.declared.Framed.{Framed}
use Rattle.format.specs.declared.Framed.TheVariants.{Item}

pub record Scales (u : ℕ) (r : Framed) : Type 0 where
  pub each : (k : Kind) (h n : ℕ) → r ≡ Item k h n → (h * u ≤ 9223372036854775807) × (n * u ≤ 9223372036854775807)
