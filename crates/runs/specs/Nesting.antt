-- The way into nested groups, a turn of its loop at a time: how many units are left up to the stop. Assumes nothing.
use Rattle.std.specs.Prelude.{◌≡◌}
use Rattle.std.proofs.Math.Path.{refl}
use Rattle.std.proofs.Common.{sym, ◌∙◌, ⊎_elim}
use Prim.Native.Nat.{ℕ, zero, suc, ◌+◌, ◌-◌, ◌<◌, ◌≤◌}
use native.Mathlib.Omega.{arith}
use borrow.Author.Tests.{lt-ltb, le-ltb, eq-eqb, ne_eqb}
use Rattle.base.specs.Cases.{lt-or-ge}
use Rattle.runs.specs.Plain.{nested}

sub-step : (m n : ℕ) → m - n - 1 ≡ m - (n + 1)
sub-step m n = omega arith

room-left : (all most left low : ℕ) → low ≡ all - most → left ≤ all → low < left → 0 < most - (all - left)
room-left all most left low e f h = omega arith

one_on : (a n : ℕ) → a + (1 + n) ≡ a + 1 + n
one_on a n = omega arith

module _ (g : ℕ → ℕ) (stop : ℕ) where
  nested-end : (m i : ℕ) → stop ≤ i → nested g stop m i ≡ 0
  unfolding nested
  nested-end zero i h = refl
  nested-end (suc m) i h = rw (le-ltb _ _ h)

  nested-other : (m i : ℕ) → i < stop → (g i ≡ stop - i → ⊥) → nested g stop m i ≡ 0
  unfolding nested
  nested-other zero i h n = refl
  nested-other (suc m) i h n = rw (lt-ltb _ _ h, ne_eqb _ _ n)

  nested-more : (m i : ℕ) → i < stop → g i ≡ stop - i → 0 < m → nested g stop m i ≡ 1 + nested g stop (m - 1) (i + 1)
  unfolding nested
  nested-more zero i h e l = absurd (omega arith)
  nested-more (suc m) i h e l = let z : suc m - 1 ≡ m = omega arith in rw (lt-ltb _ _ h, eq-eqb _ _ e, z) (omega arith)

  nested-out : (i : ℕ) → nested g stop 0 i ≡ 0
  unfolding nested
  nested-out i = refl

-- of all units from a unit up to the stop so many are left, and low may be
pub record Left (g : ℕ → ℕ) (stop most at all low left : ℕ) : Type 0 where
  pub is_all : all ≡ stop - at
  pub is-low : low ≡ all - most
  pub few : left ≤ all
  pub enough : low ≤ left
  pub so_far : nested g stop most at ≡ (all - left) + nested g stop (most - (all - left)) (stop - left)

pub left-start : {g : ℕ → ℕ} {stop most at all low : ℕ} → all ≡ stop - at → low ≡ all - most → Left g stop most at all low all
left-start {g} {stop} {most} {at} {all} {low} e f =
    record { is_all = e; is-low = f; few = omega arith; enough = omega arith; so_far = ⊎_elim inside past (lt-or-ge stop at) }
  where
    y : all - all ≡ 0
    y = omega arith

    z : most - 0 ≡ most
    z = omega arith

    inside : stop < at → nested g stop most at ≡ (all - all) + nested g stop (most - (all - all)) (stop - all)
    inside h = rw (y, z, nested-end g stop most at (omega arith), nested-end g stop most (stop - all) (omega arith))

    past : at ≤ stop → nested g stop most at ≡ (all - all) + nested g stop (most - (all - all)) (stop - all)
    past h = let w : stop - all ≡ at = omega arith in rw (y, z, w) (omega arith)

module _ {g : ℕ → ℕ} {stop most at all low left : ℕ} (L : Left g stop most at all low left) where
  pub left-inside : low < left → (stop - left < stop) × (left ≤ stop)
  left-inside h = (omega (arith, L.is_all, L.few), omega (arith, L.is_all, L.few))

  pub left_other : low < left → (g (stop - left) ≡ left → ⊥) → all - left ≡ nested g stop most at
  left_other h n =
      let i = left-inside h in
      let z : stop - (stop - left) ≡ left = omega (arith, i.1) in
      sym (L.so_far ∙ rw (nested-other g stop (most - (all - left)) (stop - left) i.0 (rw z n)) (omega arith))

  less-few : left - 1 ≤ all
  less-few = omega (arith, L.few)

  less-enough : low < left → low ≤ left - 1
  less-enough h = omega arith

  less_one : low < left → all - left + 1 ≡ all - (left - 1)
  less_one h = omega (arith, L.few)

  pub left-more : low < left → g (stop - left) ≡ left → Left g stop most at all low (left - 1)
  left-more h e =
      let i = left-inside h in
      let z : stop - (stop - left) ≡ left = omega (arith, i.1) in
      let v : stop - left + 1 ≡ stop - (left - 1) = omega (arith, i.1) in
      let w : most - (all - left) - 1 ≡ most - (all - (left - 1)) = sub-step most (all - left) ∙ rw (less_one h) in
      let m = room-left all most left low L.is-low L.few h in
      record {
        is_all = L.is_all;
        is-low = L.is-low;
        few = less-few;
        enough = less-enough h;
        so_far = L.so_far ∙ rw (nested-more g stop (most - (all - left)) (stop - left) i.0 (rw z e) m, w, v) (one_on (all - left) _ ∙ rw (less_one h));
      }

  pub left_end : left ≤ low → all - left ≡ nested g stop most at
  left_end h = sym (L.so_far ∙ ⊎_elim none out (lt-or-ge 0 low))
    where
      none : 0 < low → (all - left) + nested g stop (most - (all - left)) (stop - left) ≡ all - left
      none p =
          let z : most - (all - left) ≡ 0 = omega (arith, L.few, L.enough, L.is-low) in
          rw (z, nested-out g stop (stop - left)) (omega arith)

      out : low ≤ 0 → (all - left) + nested g stop (most - (all - left)) (stop - left) ≡ all - left
      out p = rw (nested-end g stop (most - (all - left)) (stop - left) (omega arith)) (omega arith)
