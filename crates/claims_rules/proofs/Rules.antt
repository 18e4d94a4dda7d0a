-- What a call tells, against a list of rules: laws by which a cascade of tests is shown to be 01's order. Assumes nothing.
use Rattle.std.specs.Prelude.{ℕ, zero, suc, ◌<◌, ◌≡◌, refl, List, [], ◌∷◌, ◌++◌, Bool, true, false, ◌⊎◌, T, ltb, eqb}
use Rattle.std.proofs.Common.{subst, sym, inl, inr, arith, ltb-true, ltb-false, eqb-true}
use Rattle.base.specs.Pick.{pick}
use Rattle.claims_rules.specs.Order.{Rule, ◌when◌, First, None, Among, Refusal}

infixr 5 ◌&◌
-- ---- a call's answer by a list of rules

pub data Told : Type 0 where
  accepted : Told
  told : ℕ → Told

pub data By (rs : List Rule) : Told → Type 0 where
  none : None rs → By rs accepted
  first : {m : ℕ} → First rs m → By rs (told m)

pub skip : (r : Rule) (rs : List Rule) (t : Told) → (r.given → ⊥) → By rs t → By (r ∷ rs) t
skip r rs t not (none n) = none (not, n)
skip r rs t not (first f) = first (inr (not, f))

pub behind : (rs qs : List Rule) (t : Told) → None rs → By qs t → By (rs ++ qs) t
behind [] qs t n b = b
behind (r ∷ rs) qs t n b = skip r (rs ++ qs) t n.0 (behind rs qs t n.1 b)

pub in-front : (rs qs : List Rule) (m : ℕ) → First rs m → First (rs ++ qs) m
in-front [] qs m f = absurd f
in-front (r ∷ rs) qs m (inl f) = inl f
in-front (r ∷ rs) qs m (inr f) = inr (f.0, in-front rs qs m f.1)

-- a test that gives a number, and what is asked behind it
pub ask {ℓ} : {X : Type ℓ} (f : X → Told) (b : Bool) (m : ℕ) (G : Type 0) (rs : List Rule) (x y : X) → f x ≡ told m → (b ≡ true → G)
    → (b ≡ false → G → ⊥) → By rs (f y) → By (m when G ∷ rs) (f (pick b x y))
ask f true m G rs x y e g n b = rw e (first (inl (g refl, refl)))
ask f false m G rs x y e g n b = skip (m when G) rs (f y) (n refl) b

pub ask-lt {ℓ} : {X : Type ℓ} (f : X → Told) (i j m : ℕ) (rs : List Rule) (x y : X) → f x ≡ told m → By rs (f y)
    → By (m when (i < j) ∷ rs) (f (pick (ltb i j) x y))
ask-lt f i j m rs x y e b = ask f (ltb i j) m (i < j) rs x y e (ltb-true i j) (λ g l. omega (arith, ltb-false i j g)) b

pub by-none : (rs : List Rule) → By rs accepted → None rs
by-none rs (none n) = n

pub by_first : (rs : List Rule) (m : ℕ) → By rs (told m) → First rs m
by_first rs m (first f) = f

-- a number of this list: a test, so that `tt` answers it
abbrev pub one_of : List ℕ → ℕ → Bool
one_of [] n = false
one_of (m ∷ ms) n = pick (eqb n m) true (one_of ms n)

pub among : (ns : List ℕ) (n : ℕ) → T (one_of ns n) → Among ns n
among [] n t = absurd t
among (m ∷ ms) n t = go (eqb n m) refl t (among ms n)
  where
    go : (b : Bool) → eqb n m ≡ b → T (pick b true (one_of ms n)) → (T (one_of ms n) → Among ms n) → Among (m ∷ ms) n
    go true e u next = inl (eqb-true n m e)
    go false e u next = inr (next u)

-- each rule's number is of the list, or it is never given
pub data Allowed (ns : List ℕ) : List Rule → Type 1 where
  end : Allowed ns []
  ◌&◌ : {r : Rule} {rs : List Rule} → T (one_of ns r.number) ⊎ (r.given → ⊥) → Allowed ns rs → Allowed ns (r ∷ rs)

pub first_of : (ns : List ℕ) (rs : List Rule) (m : ℕ) → Allowed ns rs → First rs m → T (one_of ns m)
first_of ns [] m end f = absurd f
first_of ns (r ∷ rs) m (w & a) (inr f) = first_of ns rs m a f.1
first_of ns (r ∷ rs) m (inl t & a) (inl f) = subst (λ (n : ℕ). T (one_of ns n)) (sym f.1) t
first_of ns (r ∷ rs) m (inr not & a) (inl f) = absurd (not f.0)

pub not-zero : (ns : List ℕ) (m : ℕ) → (T (one_of ns 0) → ⊥) → T (one_of ns m) → 0 < m
not-zero ns zero z t = absurd (z t)
not-zero ns (suc m) z t = omega arith

pub refusal : (ns : List ℕ) (rs : List Rule) (m : ℕ) → (T (one_of ns 0) → ⊥) → Allowed ns rs → First rs m → Refusal ns rs m
refusal ns rs m z a f =
    let t = first_of ns rs m a f in
    record { not-accepted = not-zero ns m z t; listed = among ns m t; in_order = f }
