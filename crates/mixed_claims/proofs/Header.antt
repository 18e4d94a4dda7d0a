-- The numbers of a JSON header are given in 02's order, for 02's conditions; and its total length. Assumes nothing.
use Rattle.std.specs.Prelude.{ℕ, zero, suc, ◌+◌, ◌-◌, ◌*◌, ◌≤◌, ◌<◌, ◌≡◌, List, [], ◌∷◌, map, Bool, false, ◌⊎◌, leb, ltb, eqb, length, get_or, take, drop}
use Rattle.std.proofs.Math.Path.{refl}
use Rattle.std.proofs.Common.{sym, ap, ◌∙◌, subst, inl, inr, get_or-take, get_or-drop, drop-cons, leb-true, le-leb, ltb-true, lt-ltb, eqb-true, eq-eqb, ne_eqb}
use Rattle.std.proofs.Math.Bool.{true}
use Rattle.std.proofs.Math.Logic.{⊎_elim}
use native.Mathlib.Omega.{arith}
use Rattle.std.proofs.lemmas.Bool.{lt-leb}
use Rattle.base.specs.Pick.{pick, pick-by}
use Rattle.base.specs.Cases.{lt-or-ge}
use Rattle.base.specs.Digits.{onward, number_of}
use Rattle.format.specs.declared.Kind.{Kind}
use Rattle.format.specs.declared.Framed.{Framed}
use Rattle.format.specs.declared.Framed.TheVariants.{Item, Unframed}
use Rattle.format.specs.Alphabet.{within}
use Rattle.claims_rules.specs.Order.{Rule, ◌when◌, None, Refusal}
use Rattle.claims_rules.proofs.Rules.{Told, By, skip, ask-lt, by-none, by_first, refusal}
use Rattle.claims_rules.proofs.Rules.Told.{accepted, told}
use Rattle.claims_rules.proofs.Rules.By.{none, first}
use Rattle.claims_rules.proofs.Rules.Allowed.{end, ◌&◌}
use Rattle.mixed.specs.Json.{hex_of, meets, pattern, passes, hex_from, json_size, fit_json, frame_json}
use Rattle.mixed_laws.specs.Json.{json-headed}
use Rattle.mixed_claims.specs.Words.{Capital, Digit, Opens, json_rules}

-- ---- classes of bytes

no {ℓ} : {A : Type ℓ} → false ≡ true → A
no e = let z : ◌≡◌ {A = ℕ} 0 1 = cc in absurd (omega arith)

within-bounds : (low high b : ℕ) → within low high b ≡ true → (low ≤ b) × (b ≤ high)
within-bounds low high b =
    pick-by (λ (t : Bool). t ≡ true → (low ≤ b) × (b ≤ high)) (leb low b) _ _ (λ l e. (leb-true low b l, leb-true b high e)) (λ _ e. no e)

bounds-within : (low high b : ℕ) → low ≤ b → b ≤ high → within low high b ≡ true
bounds-within low high b l h = rw (le-leb low b l, le-leb b high h)

hex-digit : (c : ℕ) → hex_of c < 16 → Digit c
unfolding hex_of
hex-digit c =
    pick-by (λ (v : ℕ). v < 16 → Digit c) (within 48 57 c) _ _ (λ t _. inl (within-bounds 48 57 c t))
    (λ _. pick-by (λ (v : ℕ). v < 16 → Digit c) (within 97 102 c) _ _ (λ t _. inr (within-bounds 97 102 c t)) (λ _ l. absurd (omega arith)))

digit-hex : (c : ℕ) → Digit c → hex_of c < 16
unfolding hex_of
digit-hex c (inl h) = rw (bounds-within 48 57 c h.0 h.1) (omega (arith, h.0, h.1))
digit-hex c (inr h) = rw (le-leb 48 c (omega (arith, h.0)), lt-leb c 57 (omega (arith, h.0)), bounds-within 97 102 c h.0 h.1) (omega (arith, h.0, h.1))

-- ---- one byte against the pattern's

meets-capital : (c : ℕ) → (meets 0 c ≡ true → Capital c) × (Capital c → meets 0 c ≡ true)
unfolding meets
meets-capital c = (within-bounds 65 90 c, λ h. bounds-within 65 90 c h.0 h.1)

meets-digit : (c : ℕ) → (meets 1 c ≡ true → Digit c) × (Digit c → meets 1 c ≡ true)
unfolding meets
meets-digit c = (λ t. hex-digit c (ltb-true (hex_of c) 16 t), λ d. lt-ltb (hex_of c) 16 (digit-hex c d))

meets-itself : (p c : ℕ) → 1 < p → (meets p c ≡ true → c ≡ p) × (c ≡ p → meets p c ≡ true)
unfolding meets
meets-itself p c l =
    rw (ne_eqb p 0 (λ e. omega arith), ne_eqb p 1 (λ e. omega arith)) (λ t. eqb-true c p t, λ e. eq-eqb c p e)

-- ---- all bytes of a list

abbrev all_of : (ℕ → Bool) → List ℕ → Bool
all_of P [] = true
all_of P (x ∷ l) = pick (P x) (all_of P l) false

both : (a b : Bool) → pick a b false ≡ true → (a ≡ true) × (b ≡ true)
both true b e = (refl, e)
both false b e = no e

each_of : (P : ℕ → Bool) (l : List ℕ) → all_of P l ≡ true → (i : ℕ) → i < length l → P (get_or l i 0) ≡ true
each_of P [] t i h = absurd (omega arith)
each_of P (x ∷ l) t zero h = (both (P x) (all_of P l) t).0
each_of P (x ∷ l) t (suc i) h = each_of P l (both (P x) (all_of P l) t).1 i (omega arith)

-- ---- the pattern passed

all_meet : (ps : List ℕ) (i : ℕ) (xs : List ℕ) → passes ps i xs ≡ true → (j : ℕ) → j < length ps → meets (get_or ps j 0) (get_or xs (i + j) 0) ≡ true
unfolding passes
all_meet [] i xs t j h = absurd (omega arith)
all_meet (p ∷ ps) i xs t zero h = let z : i + 0 ≡ i = omega arith in rw z (both (meets p (get_or xs i 0)) (passes ps (suc i) xs) t).0
all_meet (p ∷ ps) i xs t (suc j) h =
    let z : i + suc j ≡ suc i + j = omega arith in
    rw z (all_meet ps (suc i) xs (both (meets p (get_or xs i 0)) (passes ps (suc i) xs) t).1 j (omega arith))

meet_all : (ps : List ℕ) (i : ℕ) (xs : List ℕ) → ((j : ℕ) → j < length ps → meets (get_or ps j 0) (get_or xs (i + j) 0) ≡ true) → passes ps i xs ≡ true
unfolding passes
meet_all [] i xs h = refl
meet_all (p ∷ ps) i xs h =
    let z : i + 0 ≡ i = omega arith in
    rw (rw z at (h 0 (omega arith)))
    (meet_all ps (suc i) xs (λ j l. let y : i + suc j ≡ suc i + j = omega arith in rw y at (h (suc j) (omega arith))))

-- ---- the pattern is 02's header

module _ (xs : List ℕ) where
  abbrev Meets : ℕ → ℕ → Type 0
  Meets at i = meets (get_or pattern (at + i) 0) (get_or xs (at + i) 0) ≡ true

  -- a part of the pattern from an offset on, and what it asks, both ways
  module _ (at : ℕ) (part : List ℕ) (e : take (length part) (drop at pattern) ≡ part) where
    part-at : (i : ℕ) → i < length part → get_or pattern (at + i) 0 ≡ get_or part i 0
    part-at i h = sym (get_or-drop at pattern i 0) ∙ sym (get_or-take (length part) (drop at pattern) i 0 h) ∙ ap (λ (l : List ℕ). get_or l i 0) e

    capitals : all_of (λ v. eqb v 0) part ≡ true → (i : ℕ) → i < length part
        → (Meets at i → Capital (get_or xs (at + i) 0)) × (Capital (get_or xs (at + i) 0) → Meets at i)
    capitals t i h = rw (part-at i h, eqb-true (get_or part i 0) 0 (each_of (λ v. eqb v 0) part t i h)) (meets-capital (get_or xs (at + i) 0))

    digits : all_of (λ v. eqb v 1) part ≡ true → (i : ℕ) → i < length part
        → (Meets at i → Digit (get_or xs (at + i) 0)) × (Digit (get_or xs (at + i) 0) → Meets at i)
    digits t i h = rw (part-at i h, eqb-true (get_or part i 0) 1 (each_of (λ v. eqb v 1) part t i h)) (meets-digit (get_or xs (at + i) 0))

    themselves : all_of (ltb 1) part ≡ true → (i : ℕ) → i < length part
        → (Meets at i → get_or xs (at + i) 0 ≡ get_or part i 0) × (get_or xs (at + i) 0 ≡ get_or part i 0 → Meets at i)
    themselves t i h =
        rw (part-at i h) (meets-itself (get_or part i 0) (get_or xs (at + i) 0) (ltb-true 1 _ (each_of (ltb 1) part t i h)))

  abbrev opening : List ℕ
  opening = 123 ∷ 34 ∷ 118 ∷ 34 ∷ 58 ∷ 34 ∷ []

  abbrev format : List ℕ
  format = 74 ∷ 83 ∷ 79 ∷ 78 ∷ []

  abbrev capital : List ℕ
  capital = 0 ∷ 0 ∷ 0 ∷ 0 ∷ []

  abbrev digit : List ℕ
  digit = 1 ∷ 1 ∷ 1 ∷ 1 ∷ 1 ∷ 1 ∷ []

  passes-opens : passes pattern 0 xs ≡ true → Opens xs
  unfolding pattern
  passes-opens t =
      let m : (j : ℕ) → j < 23 → meets (get_or pattern j 0) (get_or xs j 0) ≡ true =
      λ j h. let z : 0 + j ≡ j = omega arith in rw z at (all_meet pattern 0 xs t j h) in
      record {
        opening = λ i h. (themselves 0 opening refl refl i h).0 (m (0 + i) (omega arith));
        protocol = λ i h. (capitals 6 capital refl refl i h).0 (m (6 + i) (omega arith));
        version = λ i h. (digits 10 (1 ∷ 1 ∷ []) refl refl i h).0 (m (10 + i) (omega arith));
        format = λ i h. (themselves 12 format refl refl i h).0 (m (12 + i) (omega arith));
        total = λ i h. (digits 16 digit refl refl i h).0 (m (16 + i) (omega arith));
        closing = λ i h. (themselves 22 (95 ∷ []) refl refl i h).0 (m (22 + i) (omega arith));
      }

  -- a byte from an offset on, by its place behind it
  behind : (at j : ℕ) → at ≤ j → Meets at (j - at) → meets (get_or pattern j 0) (get_or xs j 0) ≡ true
  behind at j h m = let z : at + (j - at) ≡ j = omega arith in rw z at m

  opens-passes : Opens xs → passes pattern 0 xs ≡ true
  unfolding pattern
  opens-passes o = meet_all pattern 0 xs (λ j h. let z : 0 + j ≡ j = omega arith in rw z (each j h))
    where
      each : (j : ℕ) → j < 23 → meets (get_or pattern j 0) (get_or xs j 0) ≡ true
      each j h =
          ⊎_elim (λ l. behind 0 j (omega arith) ((themselves 0 opening refl refl (j - 0) (omega arith)).1 (o.opening (j - 0) (omega arith))))
          (λ a. ⊎_elim (λ l. behind 6 j a ((capitals 6 capital refl refl (j - 6) (omega arith)).1 (o.protocol (j - 6) (omega arith))))
          (λ b. ⊎_elim (λ l. behind 10 j b ((digits 10 (1 ∷ 1 ∷ []) refl refl (j - 10) (omega arith)).1 (o.version (j - 10) (omega arith))))
          (λ c. ⊎_elim (λ l. behind 12 j c ((themselves 12 format refl refl (j - 12) (omega arith)).1 (o.format (j - 12) (omega arith))))
          (λ d. ⊎_elim (λ l. behind 16 j d ((digits 16 digit refl refl (j - 16) (omega arith)).1 (o.total (j - 16) (omega arith))))
          (λ e. behind 22 j e ((themselves 22 (95 ∷ []) refl refl (j - 22) (omega arith)).1 (o.closing (j - 22) (omega arith))))
          (lt-or-ge j 22)) (lt-or-ge j 16)) (lt-or-ge j 12)) (lt-or-ge j 10)) (lt-or-ge j 6)

-- ---- the order

told_framing : Framed → Told
told_framing (Item k h n) = accepted
told_framing (Unframed m p) = told m

-- a test that gives 17 where it fails
malformed : (b : Bool) (G : Type 0) (rs : List Rule) (y : Framed) → (b ≡ true → G) → (b ≡ false → G → ⊥) → By rs (told_framing y)
    → By (17 when (G → ⊥) ∷ rs) (told_framing (pick b y (Unframed 17 0)))
unfolding told_framing
malformed true G rs y t f r = skip (17 when (G → ⊥)) rs (told_framing y) (λ n. n (t refl)) r
malformed false G rs y t f r = first (inl (f refl, refl))

in_order : (k : Kind) (xs : List ℕ) → By (json_rules xs) (told_framing (frame_json k xs))
unfolding frame_json fit_json told_framing
in_order k xs =
    ask-lt told_framing (length xs) 23 4 _ _ _ refl
    (malformed (passes pattern 0 xs) (Opens xs) _ _ (passes-opens xs) (λ f o. no (sym f ∙ opens-passes xs o))
    (ask-lt told_framing (json_size xs) 23 17 _ _ _ refl
    (ask-lt told_framing (length xs) (json_size xs) 4 _ _ _ refl (none tt))))

pub json-refuses : (k : Kind) (xs : List ℕ) (m p : ℕ) → frame_json k xs ≡ Unframed m p → Refusal (4 ∷ 17 ∷ []) (json_rules xs) m
unfolding told_framing
json-refuses k xs m p e =
    refusal _ _ m (λ z. z) (inl tt & inl tt & inl tt & inl tt & end) (by_first _ m (subst (By _) (ap told_framing e) (in_order k xs)))

pub json-accepts : (k : Kind) (xs : List ℕ) (k' : Kind) (h n : ℕ) → frame_json k xs ≡ Item k' h n → None (json_rules xs)
unfolding told_framing
json-accepts k xs k' h n e = by-none _ (subst (By _) (ap told_framing e) (in_order k xs))

pub json-sizes : (k : Kind) (xs : List ℕ) (k' : Kind) (h n : ℕ) → frame_json k xs ≡ Item k' h n → (h ≡ 23) × (n ≡ json_size xs)
json-sizes k xs k' h n e = let g = json-headed k xs e in (g.head, g.size)

-- ---- the total length

digits_from : (n i a : ℕ) (xs : List ℕ) → i + n ≤ length xs → hex_from n i a xs ≡ onward 16 a (map hex_of (take n (drop i xs)))
unfolding hex_from
digits_from zero i a xs h = refl
digits_from (suc n) i a xs h =
    rw (drop-cons xs i 0 (omega arith)) (digits_from n (suc i) (a * 16 + hex_of (get_or xs i 0)) xs (omega arith))

pub total-digits : (xs : List ℕ) → 22 ≤ length xs → json_size xs ≡ number_of 16 (map hex_of (take 6 (drop 16 xs)))
unfolding json_size
total-digits xs h = digits_from 6 16 0 xs h
