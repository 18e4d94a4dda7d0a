-- Sextets past those that are held. Assumes nothing.
use mathlib.Core.Path.{◌≡◌}
use mathlib.Core.Bool.{true}
use mathlib.Core.List.{List}
use Prim.Native.Nat.{ℕ, ◌+◌, ◌≤◌}
use native.Mathlib.Nat.{zero-div}
use native.Mathlib.Omega.{arith}
use lib.ListN.{length, get_or-eq_default}
use Rattle.format.specs.Judging.{zero_bits}

-- every bit is zero there
pub zero-past : (cs : List ℕ) (i z : ℕ) → length cs ≡ 12 → 12 ≤ i → zero_bits cs i z ≡ true
unfolding zero_bits
zero-past cs i z l g =
    rw (
      get_or-eq_default cs 0 {n = i} (omega arith),
      get_or-eq_default cs 0 {n = i + 1} (omega arith),
      get_or-eq_default cs 0 {n = i + 2} (omega arith),
      zero-div,
    )
