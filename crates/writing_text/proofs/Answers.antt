-- The answers of an item that a text ends, in text, and what the buffer holds then: 3, or the item. Assumes nothing.
use mathlib.Core.Path.{◌≡◌, refl, ◌∙◌}
use mathlib.Core.List.{List, ◌++◌}
use Prim.Native.Nat.{ℕ, ◌+◌, ◌*◌, ◌<◌, ◌≤◌}
use native.Mathlib.Omega.{arith}
use borrow.Author.Tests.{lt-ltb, le-ltb}
use lib.ListN.{length, take, drop}
use lib.Seq.{length-take-le}
use Rattle.format.specs.Offsets.{text_offset}
use Rattle.format.specs.Texts.{text_count}
use Rattle.format.specs.Values.{bytes_in}
use Rattle.format.specs.Conversion.{to_text, first_stranger}
use Rattle.format.specs.Writing.{filled, text_outcome}
use Rattle.writing_raw.specs.Item.{room_for, text_in}
use Rattle.writing_fill.specs.Filled.{filled_text, text_item}
use Rattle.writing_fill.proofs.Filled.{filled-text}
use Rattle.writing_raw.proofs.Buffers.{text-append}
use Rattle.std.specs.Prelude.{Ok}
use Rattle.format.specs.Refusals.{refused_by}

module _ (h : ℕ) (head chars d : List ℕ) (count : ℕ) (e : count ≡ text_count (length chars)) where
  abbrev units : ℕ
  units = h + text_count (length chars)

  pub text-none : length d < (h + count) * 4
      → (refused_by 3 0 ≡ text_outcome (room_for 4 units (length d))) × (d ≡ text_in (room_for 4 units (length d)) (text_item h head chars) d)
  unfolding text_outcome
  text-none r = rw (lt-ltb _ _ (rw e at r)) (refl, refl)

  pub text-some : (h + count) * 4 ≤ length d → Ok (text_offset ((h + count) * 4)) ≡ text_outcome (room_for 4 units (length d))
  unfolding text_outcome
  text-some r = rw (le-ltb _ _ (rw e at r), e)

  -- what is written is the item

  pub text-held : (d' : List ℕ) → h ≤ 2 → length head ≡ 9 → length chars ≤ first_stranger chars → (h + count) * 4 ≤ length d
      → d' ≡ to_text (take (h * 3) head) ++ filled_text chars ++ drop (h * 4 + 4 * text_count (length chars)) d
      → d' ≡ text_in (room_for 4 units (length d)) (text_item h head chars) d
  text-held d' two nine clean r f =
      let m : h * 3 ≡ 3 * h = omega arith in
      let z : h * 4 + 4 * text_count (length chars) ≡ units * 4 = omega arith in
      let l = length-take-le (3 * h) head (omega arith) in
      rw (le-ltb _ _ (rw e at r), text-append (take (3 * h) head) (bytes_in (filled chars)) (omega arith), filled-text chars clean) (f ∙ rw (z, m))
