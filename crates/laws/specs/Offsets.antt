-- An offset in the other form, as a number. Assumes nothing.
use Rattle.std.specs.Prelude.{ℕ, ◌*◌, ◌/◌, ◌<◌, ◌≤◌, ◌≡◌, Bool, true, false, leb}
use Rattle.std.proofs.Math.Path.{refl}
use Rattle.std.proofs.Common.{ap, sym, ◌∙◌, arith, leb-true, leb-false}
use Rattle.base.specs.Pick.{pick}
use Rattle.format.specs.declared.TextOffset.{TextOffset}
use Rattle.format.specs.declared.BinaryOffset.{BinaryOffset}
use Rattle.format.specs.Units.{binary}
use Rattle.format.specs.Offsets.{text_offset, offset_in_binary, offset_in_text}
use Rattle.std.specs.Prelude.{Some, None, Option}

pub in-binary-is : (n : ℕ) {b : BinaryOffset} → b ≡ offset_in_binary (text_offset n) → b.0 ≡ n / 4 * 3
unfolding offset_in_binary
in-binary-is n e = ap (λ (b : BinaryOffset). b.0) e

abbrev place_of : Option TextOffset → TextOffset
place_of (Some t) = t
place_of None = text_offset 0

abbrev rank_of : Option TextOffset → ℕ
rank_of (Some t) = 0
rank_of None = 1

module _ (b : BinaryOffset) where
  at-by : (c : Bool) → leb b.0 binary.limit ≡ c → (t : TextOffset) → pick c (Some (text_offset (b.0 / 3 * 4))) None ≡ Some t
      → (b.0 ≤ 3145728) × (t ≡ text_offset (b.0 / 3 * 4))
  at-by true p t e = (leb-true _ _ p, sym (ap place_of e))
  at-by false p t e = let z : ◌≡◌ {A = ℕ} 1 0 = ap rank_of e in absurd (omega arith)

  past_by : (c : Bool) → leb b.0 binary.limit ≡ c → pick c (Some (text_offset (b.0 / 3 * 4))) None ≡ None → 3145728 < b.0
  past_by true p e = let z : ◌≡◌ {A = ℕ} 0 1 = ap rank_of e in absurd (omega arith)
  past_by false p e = leb-false _ _ p

  pub in-text-at : {r : Option TextOffset} → r ≡ offset_in_text b → {t : TextOffset} → r ≡ Some t → (b.0 ≤ 3145728) × (t ≡ text_offset (b.0 / 3 * 4))
  unfolding offset_in_text
  in-text-at e {t} f = at-by (leb b.0 binary.limit) refl t (sym e ∙ f)

  pub in-text-past : {r : Option TextOffset} → r ≡ offset_in_text b → r ≡ None → 3145728 < b.0
  unfolding offset_in_text
  in-text-past e f = past_by (leb b.0 binary.limit) refl (sym e ∙ f)
