-- The answers of an item that a text ends, in binary, and what the buffer holds then: 3, or the item. Assumes nothing.
use mathlib.Core.Path.{◌≡◌, refl, ◌∙◌}
use mathlib.Core.List.{List, ◌++◌}
use Prim.Native.Nat.{ℕ, ◌+◌, ◌*◌, ◌<◌, ◌≤◌}
use native.Mathlib.Omega.{arith}
use borrow.Author.Tests.{lt-ltb, le-ltb}
use lib.ListN.{length, take, drop}
use Rattle.format.specs.Offsets.{binary_offset}
use Rattle.format.specs.Texts.{fill_for, text_count}
use Rattle.format.specs.Conversion.{to_binary}
use Rattle.format.specs.Writing.{binary_outcome}
use Rattle.writing_head.specs.Heads.{TextSized}
use Rattle.writing_raw.specs.Item.{room_for, binary_in}
use Rattle.writing_fill.specs.Filled.{filled_text, text_item}
use Rattle.writing_fill.proofs.Filled.{filled-bytes}
use Rattle.std.specs.Prelude.{Ok}
use Rattle.format.specs.Refusals.{refused_by}

module _ (h : ℕ) (head chars d : List ℕ) (count : ℕ) (e : count ≡ text_count (length chars)) where
  abbrev units : ℕ
  units = h + text_count (length chars)

  pub binary-none : length d < (h + count) * 3
      → (refused_by 3 0 ≡ binary_outcome (room_for 3 units (length d))) × (d ≡ binary_in (room_for 3 units (length d)) (text_item h head chars) d)
  unfolding binary_outcome
  binary-none r = rw (lt-ltb _ _ (rw e at r)) (refl, refl)

  pub binary-some : (h + count) * 3 ≤ length d → Ok (binary_offset ((h + count) * 3)) ≡ binary_outcome (room_for 3 units (length d))
  unfolding binary_outcome
  binary-some r = rw (le-ltb _ _ (rw e at r), e)

  -- what is written is the item

  pub binary-held : (d' : List ℕ) → (h + count) * 3 ≤ length d
      → d' ≡ take (h * 3) head ++ to_binary (filled_text chars) ++ drop (h * 3 + 3 * text_count (length chars)) d
      → d' ≡ binary_in (room_for 3 units (length d)) (text_item h head chars) d
  binary-held d' r f =
      let m : h * 3 ≡ 3 * h = omega arith in
      let z : h * 3 + 3 * text_count (length chars) ≡ units * 3 = omega arith in
      rw (le-ltb _ _ (rw e at r)) (f ∙ rw (z, m, filled-bytes chars))

-- a text within a stream's limit
pub text-short : (chars h : ℕ) → TextSized chars h → chars ≤ 4194304
unfolding text_count fill_for
text-short chars h s = omega (arith, s.few)
