-- No text is filled past the sextets that are held. Assumes nothing.
use mathlib.Core.Path.{◌≡◌}
use mathlib.Core.Bool.{false}
use mathlib.Core.List.{List}
use Prim.Native.Nat.{ℕ, ◌+◌, ◌*◌, ◌<◌}
use native.Mathlib.Omega.{arith}
use lib.ListN.{length, get_or, get_or-eq_default}
use Rattle.judging_fill.specs.Fill.{filled_right}

pub unfilled-past : (lead : ℕ) (cs : List ℕ) (h : ℕ) → length cs ≡ 12 → 2 < h
    → filled_right lead (get_or cs (4 * h) 0) (get_or cs (4 * h + 1) 0) (get_or cs (4 * h + 2) 0) (get_or cs (4 * h + 3) 0) ≡ false
unfolding filled_right
unfilled-past lead cs h l g =
    rw (
      get_or-eq_default cs 0 {n = 4 * h} (omega arith),
      get_or-eq_default cs 0 {n = 4 * h + 1} (omega arith),
      get_or-eq_default cs 0 {n = 4 * h + 2} (omega arith),
      get_or-eq_default cs 0 {n = 4 * h + 3} (omega arith),
    )
