-- An opening that no code has, as a test that antt computes: what both tables are held to where they have no row. Assumes nothing.
use Rattle.std.specs.Prelude.{◌≡◌, refl, Bool, true, false, T}
use Rattle.format.specs.declared.Opening.{Opening}
use Rattle.format.specs.declared.Opening.TheVariants.{Unknown, Short, Long, LargeVariable, LargeGroup, Version}

unfoldable pub is_unknown : Opening → Bool
is_unknown Unknown = true
is_unknown (Short k n) = false
is_unknown (Long k n) = false
is_unknown (LargeVariable t l) = false
is_unknown (LargeGroup l d) = false
is_unknown Version = false

pub unknown-opening : (o : Opening) → T (is_unknown o) → o ≡ Unknown
unfolding is_unknown
unknown-opening Unknown t = refl
unknown-opening (Short k n) z = absurd z
unknown-opening (Long k n) z = absurd z
unknown-opening (LargeVariable t l) z = absurd z
unknown-opening (LargeGroup l d) z = absurd z
unknown-opening Version z = absurd z
