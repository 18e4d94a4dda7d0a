-- What a binary's first units leave in the buffer, case by case. Assumes nothing.
use mathlib.Core.Path.{◌≡◌}
use mathlib.Core.List.{List, ◌++◌}
use Prim.Native.Nat.{ℕ, ◌*◌, ◌/◌, ◌<◌, ◌≤◌}
use lib.ListN.{length, drop}
use borrow.Author.Tests.{lt-ltb, le-ltb}
use Rattle.base.specs.Each.{each}
use Rattle.format.specs.Units.{quadlet_of}
use Rattle.convert_unpack_units.specs.First.{unpacked_first}

module _ (n : ℕ) (s d : List ℕ) where
  pub too_few : length s / 3 < n → unpacked_first n s d ≡ d
  unfolding unpacked_first
  too_few a = simp (lt-ltb _ _ a)

  module _ (a : n ≤ length s / 3) where
    pub no_room : length d / 4 < n → unpacked_first n s d ≡ d
    unfolding unpacked_first
    no_room b = simp (le-ltb _ _ a, lt-ltb _ _ b)

    pub written : n ≤ length d / 4 → unpacked_first n s d ≡ each 3 quadlet_of n s ++ drop (4 * n) d
    unfolding unpacked_first
    written b = simp (le-ltb _ _ a, le-ltb _ _ b)
