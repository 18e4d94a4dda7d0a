-- The first value that is none of the 64, and its number: the rules for 5 and 19, which stand side by side wherever 5 stood. Assumes nothing.
use Rattle.std.specs.Prelude.{ℕ, suc, ◌+◌, ◌≤◌, ◌<◌, ◌≡◌, refl, List, [], ◌∷◌, Bool, true, false, eqb}
use Rattle.std.proofs.Common.{ap, inl, inr, ⊎_elim, arith, eqb-true}
use Rattle.std.proofs.lemmas.Bool.{eqb-false}
use Rattle.base.specs.Pick.{pick}
use Rattle.base.specs.Cases.{lt-or-ge}
use Rattle.format.specs.Alphabet.{ordinary, stranger_number}
use Rattle.claims_rules.specs.Order.{Rule, ◌when◌, First}
use Rattle.claims_rules.proofs.Rules.{Told, By, skip}
use Rattle.claims_rules.proofs.Rules.Told.{told}
use Rattle.claims_rules.proofs.Rules.By.{first}
use Rattle.claims_rules.specs.Conditions.{Other, Ordinary, FirstIs}

module _ (at : ℕ → ℕ) (from to : ℕ) where
  -- all are values
  abbrev pub Clean : Type 0
  Clean = (j : ℕ) → from ≤ j → j < to → at j < 64

  -- the rules, with what is asked behind them
  abbrev pub strange : List Rule → List Rule
  strange rs = 5 when (FirstIs Other at from to) ∷ 19 when (FirstIs Ordinary at from to) ∷ rs

  -- the first is of one kind only
  apart : FirstIs Other at from to → FirstIs Ordinary at from to → ⊥
  apart (i, a, b, k, o) (j, c, d, l, e) =
      ⊎_elim (λ g. omega (arith, l i a g)) (λ g. ⊎_elim (λ h. omega (arith, k j c h, e))
      (λ h. let z : j ≡ i = omega arith in o.1 (rw z at e)) (lt-or-ge j i)) (lt-or-ge i j)

  pub clean-other : Clean → FirstIs Other at from to → ⊥
  clean-other k (i, a, b, _, o) = omega (arith, k i a b, o.0)

  pub clean-ordinary : Clean → FirstIs Ordinary at from to → ⊥
  clean-ordinary k (i, a, b, _, e) = omega (arith, k i a b, e)

  pub clean-skip : (rs : List Rule) (t : Told) → Clean → By rs t → By (strange rs) t
  clean-skip rs t k b = skip _ _ t (clean-other k) (skip _ _ t (clean-ordinary k) b)

-- the number of the first bad one is that of its kind
pub bad-first : (at : ℕ → ℕ) (from to i : ℕ) (rs : List Rule) → from ≤ i → i < to → Clean at from i → 64 ≤ at i
    → First (strange at from to rs) (stranger_number (at i))
unfolding stranger_number
bad-first at from to i rs a b k s = go (eqb (at i) ordinary) refl
  where
    go : (b' : Bool) → eqb (at i) ordinary ≡ b' → First (strange at from to rs) (pick b' 19 5)
    go true e = let w : FirstIs Ordinary at from to = (i, a, b, k, eqb-true (at i) ordinary e) in inr (λ o. apart at from to o w, inl (w, refl))
    go false e = inl ((i, a, b, k, (s, eqb-false (at i) ordinary e)), refl)

-- one place more
pub clean-on : (at : ℕ → ℕ) (from to next : ℕ) → next ≡ suc to → Clean at from to → at to < 64 → Clean at from next
clean-on at from to next e k l j a b =
    ⊎_elim (λ g. k j a g) (λ g. let z : j ≡ to = omega arith in rw z l) (lt-or-ge j to)

-- a test that gives the number of the first bad one, at i, and what is asked behind it
pub ask-strange {ℓ} : {X : Type ℓ} (f : X → Told) (b : Bool) (at : ℕ → ℕ) (from to i : ℕ) (rs : List Rule) (x y : X)
    → (b ≡ true → f x ≡ told (stranger_number (at i))) → (b ≡ true → (from ≤ i) × (i < to) × Clean at from i × (64 ≤ at i))
    → (b ≡ false → Clean at from to) → By rs (f y) → By (strange at from to rs) (f (pick b x y))
ask-strange f true at from to i rs x y e bad k q =
    let w = bad refl in
    rw (e refl) (first (bad-first at from to i rs w.0 w.1 w.2 w.3))
ask-strange f false at from to i rs x y e bad k q = clean-skip at from to rs (f y) (k refl) q
