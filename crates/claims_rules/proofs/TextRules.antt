-- What 16 asks of a value of type `A`, test by test, is what 02 c says in words: Conditions' WrongText. Assumes nothing.
use Rattle.std.specs.Prelude.{ℕ, zero, suc, ◌+◌, ◌<◌, ◌≡◌, refl, List, [], ◌∷◌, Bool, true, false, not, ◌⊎◌, drop, eqb}
use Rattle.std.proofs.Common.{◌∙◌, inl, inr, ⊎_elim, arith, eqb-true, eq-eqb, ne_eqb}
use Rattle.std.proofs.lemmas.Bool.{eqb-false}
use Rattle.base.specs.Pick.{pick, pick-by}
use Rattle.base.specs.Cases.{whether}
use Rattle.format.specs.Registry.{is_text}
use Rattle.format.specs.Framing.{sextet}
use Rattle.format.specs.Texts.{fills, fill_of, text_right, value_right}
use Rattle.claims_rules.specs.Conditions.{StartsWith, WrongText}

-- ---- so many `A` in front

pub fills-starts : (k : ℕ) (v : List ℕ) → fills k v ≡ true → StartsWith k v
unfolding fills
fills-starts zero v e = (omega arith, λ i l. absurd (omega arith))
fills-starts (suc k) [] e = let z : ◌≡◌ {A = ℕ} 0 1 = cc in absurd (omega arith)
fills-starts (suc k) (x ∷ v) e =
    pick-by (λ (b : Bool). b ≡ true → StartsWith (suc k) (x ∷ v)) (eqb x 0) (fills k v) false
    (λ t g. both (eqb-true x 0 t) (fills-starts k v g)) (λ _ g. let z : ◌≡◌ {A = ℕ} 0 1 = cc in absurd (omega arith)) e
  where
    both : x ≡ 0 → StartsWith k v → StartsWith (suc k) (x ∷ v)
    both a s = (omega (arith, s.0), at)
      where
        at : (i : ℕ) → i < suc k → sextet (x ∷ v) i ≡ 0
        at zero l = a
        at (suc i) l = s.1 i (omega arith)

pub starts-fills : (k : ℕ) (v : List ℕ) → StartsWith k v → fills k v ≡ true
unfolding fills
starts-fills zero v s = refl
starts-fills (suc k) [] s = absurd (omega (arith, s.0))
starts-fills (suc k) (x ∷ v) s =
    rw (eq-eqb x 0 (s.1 0 (omega arith))) (starts-fills k v (omega (arith, s.0), λ i l. s.1 (suc i) (omega arith)))

-- one more
fills-more : (k : ℕ) (v : List ℕ) → fills (suc k) v ≡ pick (fills k v) (fills 1 (drop k v)) false
unfolding fills
fills-more zero v = refl
fills-more (suc k) [] = refl
fills-more (suc k) (x ∷ v) = by (eqb x 0) (fills-more k v)
  where
    by : (b : Bool) → fills (suc k) v ≡ pick (fills k v) (fills 1 (drop k v)) false
        → pick b (fills (suc k) v) false ≡ pick (pick b (fills k v) false) (fills 1 (drop k v)) false
    by true next = next
    by false next = refl

-- ---- 16

-- a fill of k, and no `A` behind it
abbrev Fits : ℕ → List ℕ → Bool
Fits k v = pick (fills k v) (not (fills 1 (drop k v))) false

fits_not : (k : ℕ) (v : List ℕ) → Fits k v ≡ false → (StartsWith k v → ⊥) ⊎ StartsWith (suc k) v
fits_not k v e = by (fills k v) refl (fills 1 (drop k v)) refl e
  where
    by : (a : Bool) → fills k v ≡ a → (b : Bool) → fills 1 (drop k v) ≡ b → pick a (not b) false ≡ false
        → (StartsWith k v → ⊥) ⊎ StartsWith (suc k) v
    by true f true g q = inr (fills-starts (suc k) v (fills-more k v ∙ rw (f, g)))
    by true f false g q = let z : ◌≡◌ {A = ℕ} 0 1 = cc in absurd (omega arith)
    by false f b g q = inl (λ s. let t = starts-fills k v s in let z : ◌≡◌ {A = ℕ} 0 1 = cc in omega arith)

fits-so : (k : ℕ) (v : List ℕ) → Fits k v ≡ true → StartsWith k v × (StartsWith (suc k) v → ⊥)
fits-so k v e = by (fills k v) refl (fills 1 (drop k v)) refl e
  where
    by : (a : Bool) → fills k v ≡ a → (b : Bool) → fills 1 (drop k v) ≡ b → pick a (not b) false ≡ true
        → StartsWith k v × (StartsWith (suc k) v → ⊥)
    by true f true g q = let z : ◌≡◌ {A = ℕ} 0 1 = cc in absurd (omega arith)
    by true f false g q =
        let m : fills (suc k) v ≡ false = fills-more k v ∙ rw (f, g) in (
          fills-starts k v f,
          λ s. let t = starts-fills (suc k) v s in let z : ◌≡◌ {A = ℕ} 0 1 = cc in omega arith,
        )
    by false f b g q = let z : ◌≡◌ {A = ℕ} 0 1 = cc in absurd (omega arith)

-- under 4 and 7 one is taken off if there is one, under the others as many as must be there
fill_more : (l : ℕ) (v : List ℕ) → fill_of (suc l) v ≡ l + 2
unfolding fill_of
fill_more l v = rw (ne_eqb (suc l) 0 (λ e. omega arith)) (omega arith)

pub wrong-text : (lead : ℕ) (v : List ℕ) → text_right lead v ≡ false → WrongText lead v
unfolding text_right fill_of
wrong-text zero v e = inr (by (whether (fills 1 v)))
  where
    by : (fills 1 v ≡ true) ⊎ (fills 1 v ≡ false) → StartsWith 2 v
    by (inl t) = ⊎_elim (λ n. absurd (n (fills-starts 1 v t))) (λ s. s) (fits_not 1 v (rw t at e))
    by (inr f) =
        ⊎_elim (λ n. absurd (n (omega arith, λ i l. absurd (omega arith))))
        (λ s. let t = starts-fills 1 v s in let z : ◌≡◌ {A = ℕ} 0 1 = cc in absurd (omega arith)) (fits_not 0 v (rw f at e))
wrong-text (suc l) v e = let n : suc l + 2 ≡ suc (l + 2) = omega arith in rw n (fits_not (l + 2) v (rw (fill_more l v) at e))

pub right-text : (lead : ℕ) (v : List ℕ) → text_right lead v ≡ true → WrongText lead v → ⊥
unfolding text_right fill_of
right-text zero v e (inl w) = w
right-text zero v e (inr w) = (fits-so 1 v (rw t at e)).1 w
  where
    t : fills 1 v ≡ true
    t = starts-fills 1 v (omega (arith, w.0), λ i l. w.1 i (omega arith))
right-text (suc l) v e (inl w) = w (fits-so (l + 2) v (rw (fill_more l v) at e)).0
right-text (suc l) v e (inr w) =
    let n : suc l + 2 ≡ suc (l + 2) = omega arith in (fits-so (l + 2) v (rw (fill_more l v) at e)).1 (rw n at w)

-- no `A` behind what is taken off
pub text-begins : (lead : ℕ) (v : List ℕ) → text_right lead v ≡ true → fills 1 (drop (fill_of lead v) v) ≡ false
unfolding text_right
text-begins lead v = by (fills (fill_of lead v) v) (fills 1 (drop (fill_of lead v) v))
  where
    by : (a b : Bool) → pick a (not b) false ≡ true → b ≡ false
    by true true e = let z : ◌≡◌ {A = ℕ} 0 1 = cc in absurd (omega arith)
    by true false e = refl
    by false b e = let z : ◌≡◌ {A = ℕ} 0 1 = cc in absurd (omega arith)

-- asked of type `A` alone
pub wrong-value : (t lead : ℕ) (v : List ℕ) → value_right t lead v ≡ false → (t ≡ 0) × WrongText lead v
unfolding value_right is_text
wrong-value t lead v =
    pick-by (λ (b : Bool). b ≡ false → (t ≡ 0) × WrongText lead v) (eqb t 0) _ _
    (λ a e. (eqb-true t 0 a, wrong-text lead v e)) (λ _ e. let z : ◌≡◌ {A = ℕ} 0 1 = cc in absurd (omega arith))

pub right-value : (t lead : ℕ) (v : List ℕ) → value_right t lead v ≡ true → (t ≡ 0) × WrongText lead v → ⊥
unfolding value_right is_text
right-value t lead v =
    pick-by (λ (b : Bool). b ≡ true → (t ≡ 0) × WrongText lead v → ⊥) (eqb t 0) _ _
    (λ a e w. right-text lead v e w.1) (λ a e w. eqb-false t 0 a w.0)
