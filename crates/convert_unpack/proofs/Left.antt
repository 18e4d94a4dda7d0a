-- What a binary's units leave in the buffer, case by case. Assumes nothing.
use mathlib.Core.Path.{◌≡◌, sym, ◌∙◌}
use mathlib.Core.List.{List, ◌++◌}
use mathlib.Core.Logic.{⊎_elim}
use Prim.Native.Nat.{ℕ, ◌*◌, ◌/◌, ◌<◌, ◌≤◌}
use native.Mathlib.Omega.{arith}
use lib.ListN.{length, drop}
use borrow.Author.Tests.{lt-ltb, le-ltb}
use Rattle.base.specs.Cases.{lt-or-ge}
use Rattle.format.specs.Conversion.{to_text}
use Rattle.convert_unpack_units.specs.First.{unpacked_first}
use Rattle.convert_unpack_units.proofs.First.{no_room, written}
use Rattle.convert_unpack.specs.Left.{unpacked_left}

module _ (s d : List ℕ) where
  pub no-room-left : length d < length s / 3 * 4 → unpacked_left s d ≡ d
  unfolding unpacked_left
  no-room-left a = simp (lt-ltb _ _ a)

  pub written-left : length s / 3 * 4 ≤ length d → unpacked_left s d ≡ to_text s ++ drop (length s / 3 * 4) d
  unfolding unpacked_left
  written-left a = simp (le-ltb _ _ a)

  -- the first units where they are all
  pub all_first : unpacked_first (length s / 3) s d ≡ unpacked_left s d
  unfolding to_text
  all_first =
      let m : 4 * (length s / 3) ≡ length s / 3 * 4 = omega arith in
      ⊎_elim (λ l. no_room (length s / 3) s d (omega arith) (omega arith) ∙ sym (no-room-left l))
      (λ g. written (length s / 3) s d (omega arith) (omega arith) ∙ rw m (sym (written-left g)))
      (lt-or-ge (length d) (length s / 3 * 4))
