-- Framing refuses by Conditions, in order, and an item that it finds is what the first unit opens: the header's units and the full size
-- are the registry's rules. Assumes nothing.
use Rattle.std.specs.Prelude.{ℕ, ◌+◌, ◌*◌, ◌/◌, ◌≤◌, ◌<◌, ◌≡◌, refl, List, [], ◌∷◌, Bool, true, false, ◌⊎◌, length, ltb}
use Rattle.std.proofs.Common.{subst, inl, inr, ⊎_elim, arith}
use borrow.Author.Tests.{ltb-true, ltb-false}
use Rattle.base.specs.Pick.{pick, pick-by}
use Rattle.base.specs.Cases.{lt-or-ge}
use Rattle.format.specs.declared.Kind.{Kind}
use Rattle.format.specs.declared.Opening.{Opening}
use Rattle.format.specs.declared.Opening.TheVariants.{Unknown, Short, Long, LargeVariable, LargeGroup, Version}
use Rattle.format.specs.declared.Framed.{Framed}
use Rattle.format.specs.declared.Framed.TheVariants.{Item, Unframed}
use Rattle.format.specs.Alphabet.{stranger_number}
use Rattle.format.specs.Registry.{opening_by, header_units, extent}
use Rattle.format.specs.Framing.{fit, known, second, digits4, headed, frame_with, sextet, frame_by}
use Rattle.laws.specs.Framing.{by-with}
use Rattle.claims_rules.specs.Order.{Rule, ◌when◌, First, None}
use Rattle.claims_rules.proofs.Strangers.{Clean, strange, clean-other, clean-ordinary, bad-first, clean-on}
use Rattle.claims_rules.specs.Conditions.{Other, Ordinary, FirstIs, framing_rules, opening_of, kind_in, item_kind, item_head, item_size, framing}

-- what an opening and the digits behind it make of an item, or the first number that is given
data By (o : Opening) (n : ℕ) (rs : List Rule) : Framed → Type 0 where
  item : {k : Kind} {h size : ℕ} → None rs → k ≡ kind_in o n → h ≡ header_units o → size ≡ extent o n → By o n rs (Item k h size)
  told : {m p : ℕ} → First rs m → By o n rs (Unframed m p)

skip : (o : Opening) (n : ℕ) (r : Rule) (rs : List Rule) (f : Framed) → (r.given → ⊥) → By o n rs f → By o n (r ∷ rs) f
skip o n r rs f not (item none k h size) = item (not, none) k h size
skip o n r rs f not (told first) = told (inr (not, first))

-- the four sextets from i on
known-split : (P : Framed → Type 0) (at : ℕ → ℕ) (i : ℕ) (next : Framed)
    → ((j : ℕ) → i ≤ j → j < i + 4 → Clean at i j → 64 ≤ at j → P (Unframed (stranger_number (at j)) j))
    → (Clean at i (i + 4) → P next)
    → P (known at i next)
unfolding known
known-split P at i next bad good =
    pick-by P (ltb (at i) 64) _ _
    (λ a. pick-by P (ltb (at (i + 1)) 64) _ _
    (λ b. pick-by P (ltb (at (i + 2)) 64) _ _
    (λ c. pick-by P (ltb (at (i + 3)) 64) _ _
    (λ d. good (four (ltb-true (at i) 64 a) (ltb-true (at (i + 1)) 64 b) (ltb-true (at (i + 2)) 64 c) (ltb-true (at (i + 3)) 64 d)))
    (λ d. bad (i + 3) (omega arith) (omega arith) (three (ltb-true (at i) 64 a) (ltb-true (at (i + 1)) 64 b) (ltb-true (at (i + 2)) 64 c)) (ltb-false (at (i + 3)) 64 d)))
    (λ c. bad (i + 2) (omega arith) (omega arith) (two (ltb-true (at i) 64 a) (ltb-true (at (i + 1)) 64 b)) (ltb-false (at (i + 2)) 64 c)))
    (λ b. bad (i + 1) (omega arith) (omega arith) (one (ltb-true (at i) 64 a)) (ltb-false (at (i + 1)) 64 b)))
    (λ a. bad i (omega arith) (omega arith) (λ j l u. absurd (omega arith)) (ltb-false (at i) 64 a))
  where
    one : at i < 64 → Clean at i (i + 1)
    one a = clean-on at i i (i + 1) (omega arith) (λ j l u. absurd (omega arith)) a

    two : at i < 64 → at (i + 1) < 64 → Clean at i (i + 2)
    two a b = clean-on at i (i + 1) (i + 2) (omega arith) (one a) b

    three : at i < 64 → at (i + 1) < 64 → at (i + 2) < 64 → Clean at i (i + 3)
    three a b c = clean-on at i (i + 2) (i + 3) (omega arith) (two a b) c

    four : at i < 64 → at (i + 1) < 64 → at (i + 2) < 64 → at (i + 3) < 64 → Clean at i (i + 4)
    four a b c d = clean-on at i (i + 3) (i + 4) (omega arith) (three a b c) d

-- both rules of a first bad one
skip-strange : (o : Opening) (n : ℕ) (at : ℕ → ℕ) (from to : ℕ) (rs : List Rule) (f : Framed) → Clean at from to → By o n rs f
    → By o n (strange at from to rs) f
skip-strange o n at from to rs f k b =
    skip o n _ _ f (clean-other at from to k) (skip o n _ _ f (clean-ordinary at from to k) b)

-- ---- the rules from each place on

module _ (o : Opening) (at : ℕ → ℕ) (len : ℕ) where
  abbrev from_extent : List Rule
  from_extent = 4 when (len < extent o (digits4 at)) ∷ []

  abbrev from_second : List Rule
  from_second = strange at 4 (4 * header_units o) from_extent

  abbrev from_header : List Rule
  from_header = 4 when (len < header_units o) ∷ from_second

  abbrev from_code : List Rule
  from_code = 6 when (o ≡ Unknown) ∷ from_header

  abbrev from_first : List Rule
  from_first = strange at 0 4 from_code

  -- 4 (extent)
  fit-by : (k : Kind) (h size : ℕ) → k ≡ kind_in o (digits4 at) → h ≡ header_units o → size ≡ extent o (digits4 at)
      → By o (digits4 at) from_extent (fit k h size len)
  unfolding fit
  fit-by k h size ek eh es =
      pick-by (By o (digits4 at) from_extent) (ltb len size) _ _ (λ e. told (inl (omega (arith, es, ltb-true len size e), refl)))
      (λ e. item (λ l. omega (arith, es, ltb-false len size e), tt) ek eh es)

  -- 4 (second unit), 5, of an opening whose header has two units
  second-by : (k : Kind) → k ≡ kind_in o (digits4 at) → header_units o ≡ 2
      → By o (digits4 at) from_header (second at len (fit k 2 (extent o (digits4 at)) len))
  unfolding second
  second-by k ek two =
      pick-by (By o (digits4 at) from_header) (ltb len 2) _ _ (λ e. told (inl (rw two (ltb-true len 2 e), refl)))
      (λ e. skip o (digits4 at) (4 when (len < header_units o)) from_second _ (λ l. omega (arith, two, ltb-false len 2 e))
      (known-split (By o (digits4 at) from_second) at 4 _
      (λ j a b c s. told (bad-first at 4 (4 * header_units o) j from_extent a (rw two (omega arith)) c s))
      (λ c. skip-strange o (digits4 at) at 4 (4 * header_units o) from_extent _ (λ j a b. c j a (omega (arith, two)))
      (fit-by k 2 (extent o (digits4 at)) ek (rw two) refl))))

-- 6
headed-by : (o : Opening) (at : ℕ → ℕ) (len : ℕ) → 1 ≤ len → By o (digits4 at) (from_code o at len) (headed o at len)
unfolding headed header_units extent
headed-by Unknown at len l = told (inl (refl, refl))
headed-by (Short k n) at len l =
    skip (Short k n) (digits4 at) (6 when (Short k n ≡ Unknown)) _ _ (λ e. let z : ◌≡◌ {A = ℕ} 0 1 = cc in omega arith)
    (skip (Short k n) (digits4 at) (4 when (len < 1)) _ _ (λ g. omega arith)
    (skip-strange (Short k n) (digits4 at) at 4 4 _ _ (λ j a b. absurd (omega arith))
    (fit-by (Short k n) at len k 1 n refl refl refl)))
headed-by (Long k n) at len l =
    skip (Long k n) (digits4 at) (6 when (Long k n ≡ Unknown)) _ _ (λ e. let z : ◌≡◌ {A = ℕ} 0 1 = cc in omega arith)
    (second-by (Long k n) at len _ refl refl)
headed-by (LargeVariable t v) at len l =
    skip (LargeVariable t v) (digits4 at) (6 when (LargeVariable t v ≡ Unknown)) _ _ (λ e. let z : ◌≡◌ {A = ℕ} 0 1 = cc in omega arith)
    (second-by (LargeVariable t v) at len _ refl refl)
headed-by (LargeGroup t d) at len l =
    skip (LargeGroup t d) (digits4 at) (6 when (LargeGroup t d ≡ Unknown)) _ _ (λ e. let z : ◌≡◌ {A = ℕ} 0 1 = cc in omega arith)
    (second-by (LargeGroup t d) at len _ refl refl)
headed-by Version at len l =
    skip Version (digits4 at) (6 when (Version ≡ Unknown)) _ _ (λ e. let z : ◌≡◌ {A = ℕ} 0 1 = cc in omega arith)
    (second-by Version at len _ refl refl)

-- 4 (first unit), 5; by either table
module _ (t : Bool) (s : List ℕ) where
  abbrev Framing : List Rule → Framed → Type 0
  Framing = By (opening_of t s) (digits4 (sextet s))

  with-by : Framing (framing t s) (frame_with (opening_by t) (sextet s) (length s / 4))
  unfolding frame_with
  with-by =
      pick-by (Framing (framing t s)) (ltb (length s / 4) 1) _ _ (λ e. told (inl (ltb-true (length s / 4) 1 e, refl)))
      (λ e. skip _ _ (4 when (length s / 4 < 1)) (from_first (opening_of t s) (sextet s) (length s / 4)) _
      (λ l. omega (arith, ltb-false (length s / 4) 1 e))
      (known-split (Framing (from_first (opening_of t s) (sextet s) (length s / 4))) (sextet s) 0 _
      (λ j a b k g. told (bad-first (sextet s) 0 4 j (from_code (opening_of t s) (sextet s) (length s / 4)) a b k g))
      (λ k. skip-strange (opening_of t s) (digits4 (sextet s)) (sextet s) 0 4 (from_code (opening_of t s) (sextet s) (length s / 4)) _ k
      (headed-by (opening_of t s) (sextet s) (length s / 4) (ltb-false (length s / 4) 1 e)))))

  frame-by : Framing (framing t s) (frame_by t s)
  frame-by = rw (by-with t s) with-by

-- ---- as claims

pub record Found (t : Bool) (s : List ℕ) (k : Kind) (h n : ℕ) : Type 0 where
  pub none : None (framing t s)
  pub kind : k ≡ item_kind t s
  pub head : h ≡ item_head t s
  pub size : n ≡ item_size t s

found : (t : Bool) (s : List ℕ) (k : Kind) (h n : ℕ) → Framing t s (framing t s) (Item k h n) → Found t s k h n
found t s k h n (item none kind head size) = record { none = none; kind = kind; head = head; size = size }

pub framed-found : (t : Bool) (s : List ℕ) (k : Kind) (h n : ℕ) → frame_by t s ≡ Item k h n → Found t s k h n
framed-found t s k h n e = found t s k h n (subst (Framing t s (framing t s)) e (frame-by t s))

first : (t : Bool) (s : List ℕ) (m p : ℕ) → Framing t s (framing t s) (Unframed m p) → First (framing t s) m
first t s m p (told f) = f

pub unframed-first : (t : Bool) (s : List ℕ) (m p : ℕ) → frame_by t s ≡ Unframed m p → First (framing t s) m
unframed-first t s m p e = first t s m p (subst (Framing t s (framing t s)) e (frame-by t s))
