-- What stands at a place of a list that is cut to so many units. Assumes nothing.
use mathlib.Core.Path.{◌≡◌, sym}
use mathlib.Core.List.{List}
use Prim.Native.Nat.{ℕ, ◌*◌, ◌/◌, ◌<◌, ◌≤◌}
use native.Mathlib.Omega.{arith}
use lib.ListN.{length, get_or, take, length-take, get_or-eq_default}
use lib.Seq.{get_or-take}

pub part_in : (s : List ℕ) (n i : ℕ) → i / 4 < n → get_or s i 0 ≡ get_or (take (4 * n) s) i 0
part_in s n i h = sym (get_or-take (4 * n) s i 0 (omega arith))

pub part_out : (s : List ℕ) (n i : ℕ) → n ≤ i / 4 → 0 ≡ get_or (take (4 * n) s) i 0
part_out s n i h = sym (get_or-eq_default (take (4 * n) s) 0 {n = i} (omega (arith, length-take (4 * n) s)))

-- past the list itself
pub part-past : (s : List ℕ) (n i : ℕ) → length s ≤ i → 0 ≡ get_or (take (4 * n) s) i 0
part-past s n i h = sym (get_or-eq_default (take (4 * n) s) 0 {n = i} (omega (arith, length-take (4 * n) s)))
