-- The six digits of a genus/version. Assumes nothing.
use mathlib.Core.Path.{◌≡◌}
use Prim.Native.Nat.{ℕ, ◌+◌, ◌*◌}
use native.Mathlib.Omega.{arith}
use lib.Dec.{eqb}
use Rattle.format.specs.Framing.{is_ours, digits4}

-- as the code puts them together
pub six-digits : (at : ℕ → ℕ) (high low : ℕ) → high ≡ ((0 * 64 + 0) * 64 + at 2) * 64 + at 3 → low ≡ digits4 at
    → eqb (high * 16777216 + low) 8192 ≡ is_ours at
unfolding is_ours
six-digits at high low p q =
    let e : high * 16777216 + low ≡ (at 2 * 64 + at 3) * 16777216 + digits4 at = omega arith in
    rw e
