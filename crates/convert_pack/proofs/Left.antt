-- What a text's units leave in the buffer, case by case. Assumes nothing.
use mathlib.Core.Path.{◌≡◌, sym, ◌∙◌}
use mathlib.Core.List.{List, ◌++◌}
use Prim.Native.Nat.{ℕ, ◌*◌, ◌/◌, ◌<◌, ◌≤◌}
use lib.ListN.{length, drop}
use native.Mathlib.Omega.{arith}
use borrow.Author.Tests.{lt-ltb, le-ltb}
use Rattle.format.specs.Conversion.{to_binary, first_stranger}
use Rattle.convert_pack.specs.Left.{Packed, packed_left}

module _ (s d : List ℕ) where
  pub stranger-left : first_stranger s < length s → packed_left s d ≡ d
  unfolding packed_left
  stranger-left a = simp (lt-ltb _ _ a)

  pub no-room-left : length s ≤ first_stranger s → length d < length s / 4 * 3 → packed_left s d ≡ d
  unfolding packed_left
  no-room-left a b = simp (le-ltb _ _ a, lt-ltb _ _ b)

  pub written-left : length s ≤ first_stranger s → length s / 4 * 3 ≤ length d → packed_left s d ≡ to_binary s ++ drop (length s / 4 * 3) d
  unfolding packed_left
  written-left a b = simp (le-ltb _ _ a, le-ltb _ _ b)

  -- what the code has written is that
  pub packed-left : length s ≤ first_stranger s → length s / 4 * 3 ≤ length d → (r : List ℕ) → Packed (length s / 4) s d r → r ≡ packed_left s d
  unfolding to_binary
  packed-left a b r h =
      let m : 3 * (length s / 4) ≡ length s / 4 * 3 = omega arith in
      rw m at h ∙ sym (written-left a b)
