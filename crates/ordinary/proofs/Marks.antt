-- The mark of the ordinary alphabet read as any stranger's: what a mask does to a text's sextets, and what no test for a value sees.
-- Assumes nothing.
use Rattle.std.specs.Prelude.{ℕ, ◌<◌, ◌≤◌, ◌≡◌, refl, List, [], ◌∷◌, map, Bool, true, false, eqb, ltb, get_or}
use Rattle.std.proofs.Common.{ap, ⊎_elim, arith, eqb-true, ne_eqb, eqb→eq}
use Rattle.std.proofs.Math.ListN.{get_or-map}
use Rattle.base.specs.Pick.{pick}
use Rattle.base.specs.Cases.{lt-or-ge}
use Rattle.base.specs.Below.{below}
use Rattle.base.specs.Digits.{Below, none, more}
use Rattle.format.specs.Alphabet.{is_ordinary, ordinary, stranger, sextet_of, stranger_number}
use Rattle.format.specs.Units.{text_sextets}
use Rattle.laws.specs.Alphabet.{sextet-past}
use Rattle.ordinary.specs.Words.{mask, masked, as_five}

-- ---- a test whose answers correspond

pub pick_to {ℓ κ} : {X : Type ℓ} {Y : Type κ} (f : X → Y) (b : Bool) (x y : X) (x' y' : Y) → (b ≡ true → x' ≡ f x) → (b ≡ false → y' ≡ f y)
    → pick b x' y' ≡ f (pick b x y)
pick_to f true x y x' y' g h = g refl
pick_to f false x y x' y' g h = h refl

-- ---- one value

unfoldable pub plain : ℕ → ℕ
plain v = pick (eqb v ordinary) stranger v

-- it is a value or not, as before
pub plain-test : (v : ℕ) → ltb (plain v) 64 ≡ ltb v 64
unfolding plain
plain-test v = go (eqb v ordinary) refl
  where
    go : (b : Bool) → eqb v ordinary ≡ b → ltb (pick b stranger v) 64 ≡ ltb v 64
    go true e = rw (eqb-true v ordinary e)
    go false e = refl

-- and `A` or not
pub plain-zero : (v : ℕ) → eqb (plain v) 0 ≡ eqb v 0
unfolding plain
plain-zero v = go (eqb v ordinary) refl
  where
    go : (b : Bool) → eqb v ordinary ≡ b → eqb (pick b stranger v) 0 ≡ eqb v 0
    go true e = rw (eqb-true v ordinary e)
    go false e = refl

pub plain_value : (v : ℕ) → v < 64 → plain v ≡ v
unfolding plain
plain_value v l = rw (ne_eqb v ordinary (λ e. omega arith))

-- its number is 5, which 19 becomes
pub plain-number : (v : ℕ) → stranger_number (plain v) ≡ as_five (stranger_number v)
unfolding plain stranger_number as_five
plain-number v = go (eqb v ordinary) refl
  where
    go : (b : Bool) → eqb v ordinary ≡ b → ◌≡◌ {A = ℕ} (pick (eqb (pick b stranger v) ordinary) 19 5) (pick (eqb (pick b 19 5) 19) 5 (pick b 19 5))
    go true e = refl
    go false e = rw e

-- ---- a text: the mask changes a mark and nothing else

-- a mask's sextet, and 19 for the three
is_masked : ℕ → Bool
is_masked c = eqb (sextet_of (mask c)) (plain (sextet_of c))

is_numbered : ℕ → Bool
is_numbered c = eqb (stranger_number (sextet_of c)) (pick (is_ordinary c) 19 5)

past-ordinary : (c : ℕ) → 123 ≤ c → is_ordinary c ≡ false
past-ordinary c h = rw (ne_eqb c 43 (λ e. omega arith), ne_eqb c 47 (λ e. omega arith), ne_eqb c 61 (λ e. omega arith))

below-masked : (c : ℕ) → c < 256 → sextet_of (mask c) ≡ plain (sextet_of c)
unfolding is_masked sextet_of mask plain
below-masked c h = eqb→eq (sextet_of (mask c)) (plain (sextet_of c)) (below is_masked 256 tt c h)

past-masked : (c : ℕ) → 256 ≤ c → sextet_of (mask c) ≡ plain (sextet_of c)
unfolding mask plain
past-masked c h = rw (past-ordinary c (omega arith), sextet-past c (omega arith))

pub sextet-masked : (c : ℕ) → sextet_of (mask c) ≡ plain (sextet_of c)
sextet-masked c = ⊎_elim (below-masked c) (past-masked c) (lt-or-ge c 256)

below-numbered : (c : ℕ) → c < 256 → stranger_number (sextet_of c) ≡ pick (is_ordinary c) 19 5
unfolding is_numbered sextet_of stranger_number
below-numbered c h = eqb→eq (stranger_number (sextet_of c)) (pick (is_ordinary c) 19 5) (below is_numbered 256 tt c h)

past-numbered : (c : ℕ) → 256 ≤ c → stranger_number (sextet_of c) ≡ pick (is_ordinary c) 19 5
unfolding stranger_number
past-numbered c h = rw (past-ordinary c (omega arith), sextet-past c (omega arith))

pub number-ordinary : (c : ℕ) → stranger_number (sextet_of c) ≡ pick (is_ordinary c) 19 5
number-ordinary c = ⊎_elim (below-numbered c) (past-numbered c) (lt-or-ge c 256)

pub sextets-masked : (s : List ℕ) → text_sextets (masked s) ≡ map plain (text_sextets s)
unfolding text_sextets
sextets-masked [] = refl
sextets-masked (c ∷ s) = rw (sextet-masked c) (ap (λ (t : List ℕ). plain (sextet_of c) ∷ t) (sextets-masked s))

-- ---- lists of sextets

pub plain_at : (s : List ℕ) (i : ℕ) → get_or (map plain s) i 0 ≡ plain (get_or s i 0)
unfolding plain
plain_at s i = get_or-map plain s i 0

pub plain-all : (s : List ℕ) → Below 64 s → map plain s ≡ s
plain-all [] h = refl
plain-all (x ∷ s) (more p r) = rw (plain_value x p) (ap (λ (t : List ℕ). x ∷ t) (plain-all s r))

-- ---- a text in the alphabet has nothing to mask

value-number : (v : ℕ) → v < 64 → stranger_number v ≡ 5
unfolding stranger_number
value-number v l = rw (ne_eqb v ordinary (λ e. omega arith))

mask-known : (c : ℕ) → sextet_of c < 64 → mask c ≡ c
unfolding mask
mask-known c l = go (is_ordinary c) (number-ordinary c)
  where
    go : (b : Bool) → stranger_number (sextet_of c) ≡ pick b 19 5 → pick b 33 c ≡ c
    go true e = absurd (omega (arith, value-number (sextet_of c) l))
    go false e = refl

pub masked-known : (s : List ℕ) → Below 64 (text_sextets s) → masked s ≡ s
unfolding text_sextets
masked-known [] h = refl
masked-known (c ∷ s) (more p r) = rw (mask-known c p) (ap (λ (t : List ℕ). c ∷ t) (masked-known s r))
