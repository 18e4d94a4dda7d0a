-- Cutting by a framing that obeys Frames: its equations, and induction item by item. Assumes nothing.
use Prim.Native.Nat.{ℕ, zero, suc, ◌≤◌, ◌<◌}
use Rattle.std.specs.Prelude.{◌≡◌, length, take, drop}
use Rattle.std.proofs.Math.Path.{refl, ap}
use Rattle.std.proofs.Common.{sym, ◌∙◌, arith, length-take, length-drop, get_or-take}
use mathlib.Core.List.{List, [], ◌∷◌}
use Rattle.std.proofs.Math.Seq.{take-length, drop-length}
use Rattle.format.specs.declared.Kind.{Kind}
use Rattle.format.specs.declared.Framed.{Framed}
use Rattle.format.specs.declared.Framed.TheVariants.{Item, Unframed}
use Rattle.format.specs.Cutting.{Cut, cut_by, cut_f, cut}
use Rattle.format.specs.Cutting.Cut.{done, stopped, item}
use Rattle.damage.specs.Words.{Agree, Frames}

module _ (frame : List ℕ → Framed) (F : Frames frame) where
  pub frame-item : (xs : List ℕ) {k : Kind} {h n : ℕ} → frame xs ≡ Item k h n → (0 < h) × (h ≤ n) × (n ≤ length xs)
  frame-item xs {k} {h} {n} e = F.within xs k h n e

  pub frame-alike : (xs ys : List ℕ) {k : Kind} {h n : ℕ} → frame xs ≡ Item k h n → Agree h xs ys → n ≤ length ys → frame ys ≡ Item k h n
  frame-alike xs ys {k} {h} {n} e = F.alike xs ys k h n e

  -- an item's own list
  pub frame-take : (xs : List ℕ) {k : Kind} {h n : ℕ} → frame xs ≡ Item k h n → frame (take n xs) ≡ Item k h n
  frame-take xs {k} {h} {n} e =
      let sizes = frame-item xs e in
      frame-alike xs (take n xs) e (λ i lt. get_or-take n xs i 0 (omega arith)) (omega (arith, length-take n xs))

  -- what is behind an item that starts a list
  shorter : (x : ℕ) (xs : List ℕ) (f : ℕ) {k : Kind} {h n : ℕ} → frame (x ∷ xs) ≡ Item k h n → length xs ≤ f → length (drop n (x ∷ xs)) ≤ f
  shorter x xs f {k} {h} {n} e l = omega (arith, length-drop n (x ∷ xs), frame-item (x ∷ xs) e)

  -- ---- induction item by item

  pub by-items {ℓ} : (P : List ℕ → Type ℓ) → P []
      → ((xs : List ℕ) (n p : ℕ) → frame xs ≡ Unframed n p → 0 < length xs → P xs)
      → ((xs : List ℕ) (k : Kind) (h n : ℕ) → frame xs ≡ Item k h n → P (drop n xs) → P xs)
      → (xs : List ℕ) → P xs
  by-items P nil stop more xs = go (length xs) xs (omega arith)
    where
      by : (f : ℕ) (y : ℕ) (ys : List ℕ) → length ys ≤ f → ((zs : List ℕ) → length zs ≤ f → P zs) → (r : Framed)
          → frame (y ∷ ys) ≡ r → P (y ∷ ys)
      by f y ys l rec (Unframed n p) e = stop (y ∷ ys) n p e (omega arith)
      by f y ys l rec (Item k h n) e = more (y ∷ ys) k h n e (rec (drop n (y ∷ ys)) (shorter y ys f e l))

      go : (f : ℕ) (ys : List ℕ) → length ys ≤ f → P ys
      go zero [] l = nil
      go zero (y ∷ ys) l = absurd (omega arith)
      go (suc f) [] l = nil
      go (suc f) (y ∷ ys) l = by f y ys (omega arith) (λ zs m. go f zs m) (frame (y ∷ ys)) refl

  -- ---- the equations of cut

  by-cong : (r : Framed) (xs : List ℕ) (go go' : List ℕ → Cut)
      → ((k : Kind) (h n : ℕ) → r ≡ Item k h n → go (drop n xs) ≡ go' (drop n xs)) → cut_by r xs go ≡ cut_by r xs go'
  unfolding cut_by
  by-cong (Item k h n) xs go go' e = ap (item (take n xs)) (e k h n refl)
  by-cong (Unframed n p) xs go go' e = refl

  -- any number of turns that is not below the length
  same : (f g : ℕ) (xs : List ℕ) → length xs ≤ f → length xs ≤ g → cut_f frame f xs ≡ cut_f frame g xs
  unfolding cut_f
  same zero zero xs hf hg = refl
  same zero (suc g) [] hf hg = refl
  same zero (suc g) (x ∷ xs) hf hg = absurd (omega arith)
  same (suc f) zero [] hf hg = refl
  same (suc f) zero (x ∷ xs) hf hg = absurd (omega arith)
  same (suc f) (suc g) [] hf hg = refl
  same (suc f) (suc g) (x ∷ xs) hf hg =
      by-cong (frame (x ∷ xs)) (x ∷ xs) (λ ys. cut_f frame f ys) (λ ys. cut_f frame g ys)
      (λ k h n e. same f g (drop n (x ∷ xs)) (shorter x xs f e (omega arith)) (shorter x xs g e (omega arith)))

  pub cut-nil : cut frame [] ≡ done
  unfolding cut cut_f
  cut-nil = refl

  pub cut_step : (x : ℕ) (xs : List ℕ) → cut frame (x ∷ xs) ≡ cut_by (frame (x ∷ xs)) (x ∷ xs) (cut frame)
  unfolding cut cut_f
  cut_step x xs =
      by-cong (frame (x ∷ xs)) (x ∷ xs) (λ ys. cut_f frame (length xs) ys) (cut frame)
      (λ k h n e. same (length xs) (length (drop n (x ∷ xs))) (drop n (x ∷ xs)) (shorter x xs (length xs) e (omega arith)) (omega arith))

  pub cut-item : (xs : List ℕ) {k : Kind} {h n : ℕ} → frame xs ≡ Item k h n → cut frame xs ≡ item (take n xs) (cut frame (drop n xs))
  unfolding cut_by
  cut-item [] e = absurd (omega (arith, frame-item [] e))
  cut-item (x ∷ xs) e = cut_step x xs ∙ ap (λ r. cut_by r (x ∷ xs) (cut frame)) e

  pub cut-refused : (xs : List ℕ) {n p : ℕ} → 0 < length xs → frame xs ≡ Unframed n p → cut frame xs ≡ stopped n p xs
  unfolding cut_by
  cut-refused [] h e = absurd (omega arith)
  cut-refused (x ∷ xs) h e = cut_step x xs ∙ ap (λ r. cut_by r (x ∷ xs) (cut frame)) e

  -- an item's own list is cut into that item alone
  pub cut-own : (xs : List ℕ) {k : Kind} {h n : ℕ} → frame xs ≡ Item k h n → cut frame (take n xs) ≡ item (take n xs) done
  cut-own xs {k} {h} {n} e =
      let sizes = frame-item xs e in
      let l : length (take n xs) ≡ n = omega (arith, length-take n xs) in
      cut-item (take n xs) (frame-take xs e)
      ∙ ap (λ (j : ℕ). item (take j (take n xs)) (cut frame (drop j (take n xs)))) (sym l)
      ∙ rw (take-length (take n xs), drop-length (take n xs), cut-nil)
