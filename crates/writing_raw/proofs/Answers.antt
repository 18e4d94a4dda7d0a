-- The answers by an item's room, and what the buffer holds then. Assumes nothing.
use mathlib.Core.Path.{◌≡◌, refl, ◌∙◌}
use mathlib.Core.List.{List, ◌++◌}
use Prim.Native.Nat.{ℕ, ◌+◌, ◌-◌, ◌*◌, ◌/◌, ◌<◌, ◌≤◌}
use native.Mathlib.Omega.{arith}
use borrow.Author.Tests.{lt-ltb, le-ltb}
use lib.ListN.{length, take, drop}
use Rattle.format.specs.Offsets.{text_offset, binary_offset}
use Rattle.format.specs.Conversion.{to_text}
use Rattle.format.specs.Writing.{text_outcome, binary_outcome}
use Rattle.writing_raw.specs.Item.{Sized, raw_item, room_for, binary_in, text_in}
use Rattle.std.specs.Prelude.{Ok}
use Rattle.format.specs.Refusals.{refused_by}

module _ (k : ℕ) (head raw d : List ℕ) where
  pub binary-no-room : length d < k * 3
      → (refused_by 3 0 ≡ binary_outcome (room_for 3 k (length d))) × (d ≡ binary_in (room_for 3 k (length d)) (raw_item k head raw) d)
  unfolding binary_outcome
  binary-no-room h = rw (lt-ltb _ _ h) (refl, refl)

  pub text-no-room : length d < k * 4
      → (refused_by 3 0 ≡ text_outcome (room_for 4 k (length d))) × (d ≡ text_in (room_for 4 k (length d)) (raw_item k head raw) d)
  unfolding text_outcome
  text-no-room h = rw (lt-ltb _ _ h) (refl, refl)

  module _ (s : Sized (length raw) k) (d' : List ℕ) where
    pub binary-put : k * 3 ≤ length d → d' ≡ take (k * 3 - length raw) head ++ raw ++ drop (k * 3 - length raw + length raw) d
        → (Ok (binary_offset (k * 3)) ≡ binary_outcome (room_for 3 k (length d))) × (d' ≡ binary_in (room_for 3 k (length d)) (raw_item k head raw) d)
    unfolding binary_outcome
    binary-put h e =
        let m : k * 3 ≡ 3 * k = omega arith in
        let z : k * 3 - length raw + length raw ≡ k * 3 = omega (arith, s.whole) in
        rw (le-ltb _ _ h) (refl, e ∙ rw (z, m))

    pub text-put : k * 4 ≤ length d → d' ≡ to_text (take (k * 3 - length raw) head ++ raw) ++ drop ((k * 3 - length raw + length raw) / 3 * 4) d
        → (Ok (text_offset (k * 4)) ≡ text_outcome (room_for 4 k (length d))) × (d' ≡ text_in (room_for 4 k (length d)) (raw_item k head raw) d)
    unfolding text_outcome
    text-put h e =
        let m : k * 3 ≡ 3 * k = omega arith in
        let z : (k * 3 - length raw + length raw) / 3 * 4 ≡ k * 4 = omega (arith, s.whole) in
        rw (le-ltb _ _ h) (refl, e ∙ rw (z, m))
