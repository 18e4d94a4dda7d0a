-- The answers to a binary, case by case, in the order of refusal; and what a text's units leave, by the answer. Assumes nothing.
use mathlib.Core.Path.{◌≡◌, refl, sym, ap, ◌∙◌}
use mathlib.Core.List.{List}
use mathlib.Core.Logic.{⊎_elim}
use Prim.Native.Nat.{ℕ, ◌*◌, ◌/◌, ◌%◌, ◌<◌, ◌≤◌}
use lib.ListN.{length}
use borrow.Author.Tests.{lt-ltb, le-ltb}
use Rattle.base.specs.Cases.{lt-or-ge}
use Rattle.format.specs.Offsets.{text_offset, binary_offset}
use Rattle.format.specs.Conversion.{text_to_binary, binary_left, binary_to_text}
use Rattle.convert_pack.specs.Left.{packed_left}
use Rattle.convert_pack.proofs.Left.{stranger-left, no-room-left, written-left}
use Rattle.convert_order.specs.Lengths.{length_refusal}
use Rattle.convert_order.proofs.Answers.{text-stranger, text-no-room, text-converted}
use Rattle.std.specs.Prelude.{Ok, Result}
use Rattle.format.specs.declared.Refusal.{Refusal}
use Rattle.format.specs.Refusals.{refused_by}
use Rattle.format.specs.declared.TextOffset.{TextOffset}
use Rattle.format.specs.declared.BinaryOffset.{BinaryOffset}

module _ (s : List ℕ) (room : ℕ) where
  pub binary-long : 3145728 < length s → binary_to_text s room ≡ refused_by 1 (binary_offset 0)
  unfolding binary_to_text
  binary-long a = simp (lt-ltb _ _ a)

  pub binary-torn : length s ≤ 3145728 → 0 < length s % 3 → binary_to_text s room ≡ refused_by 2 (binary_offset 0)
  unfolding binary_to_text
  binary-torn a b = simp (le-ltb _ _ a, lt-ltb _ _ b)

  module _ (a : length s ≤ 3145728) (b : length s % 3 ≤ 0) where
    pub binary-no-room : room < length s / 3 * 4 → binary_to_text s room ≡ refused_by 3 (binary_offset 0)
    unfolding binary_to_text
    binary-no-room r = simp (le-ltb _ _ a, le-ltb _ _ b, lt-ltb _ _ r)

    pub binary-converted : length s / 3 * 4 ≤ room → binary_to_text s room ≡ Ok (text_offset (length s / 3 * 4))
    unfolding binary_to_text
    binary-converted r = simp (le-ltb _ _ a, le-ltb _ _ b, le-ltb _ _ r)

-- the units of a text whose length is not refused
module _ (s d : List ℕ) (w : length_refusal (length s) ≡ 0) {r : Result BinaryOffset (Refusal TextOffset)} (e : r ≡ text_to_binary s (length d)) where
  by_answer : {a : Result BinaryOffset (Refusal TextOffset)} → text_to_binary s (length d) ≡ a → packed_left s d ≡ binary_left a s d → packed_left s d ≡ binary_left r s d
  by_answer f h = h ∙ ap (λ (a : Result BinaryOffset (Refusal TextOffset)). binary_left a s d) (sym (e ∙ f))

  pub text-left : packed_left s d ≡ binary_left r s d
  unfolding binary_left
  text-left =
      ⊎_elim
      (λ b. by_answer (text-stranger s (length d) w _ refl b) (stranger-left s d b))
      (λ b.
      ⊎_elim
      (λ o. by_answer (text-no-room s (length d) w _ refl b o) (no-room-left s d b o))
      (λ o. by_answer (text-converted s (length d) w _ refl b o) (written-left s d b o))
      (lt-or-ge (length d) (length s / 4 * 3)))
      (lt-or-ge _ (length s))
