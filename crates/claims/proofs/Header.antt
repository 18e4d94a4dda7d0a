-- A header is one unit or two, by the first two characters, as 01 has it; and framing as claimed. Assumes nothing.
use Rattle.std.specs.Prelude.{ℕ, ◌*◌, ◌≤◌, ◌<◌, ◌≡◌, refl, List, [], ◌∷◌, Bool, true, false, ltb, leb, eqb}
use Rattle.std.proofs.Common.{sym, ◌∙◌, inl, arith}
use borrow.Author.Tests.{ltb-true, ltb-false, eqb-true, eqb-false, le-leb, lt-leb, eq-eqb, ne_eqb}
use Rattle.base.specs.Pick.{pick, pick-by}
use Rattle.format.specs.declared.Kind.{Kind}
use Rattle.format.specs.declared.Kind.TheVariants.{Fixed, Variable, Group, Genus, Indexed}
use Rattle.format.specs.declared.Opening.{Opening}
use Rattle.format.specs.declared.Opening.TheVariants.{Unknown, Short, Long, LargeVariable, LargeGroup, Version}
use Rattle.format.specs.Alphabet.{within}
use Rattle.format.specs.Registry.{fixed, is_type, is_group, opening, header_units}
use Rattle.laws.specs.Registry.{Finds, fixed-finds}
use Rattle.format.specs.declared.Framed.{Framed}
use Rattle.format.specs.declared.Framed.TheVariants.{Item}
use Rattle.format.specs.Units.{Domain}
use Rattle.format.specs.Framing.{sextet, frame, frame_ruled, frame_next}
use Rattle.format.specs.Report.{frame_in}
use Rattle.damage.specs.Words.{head_of}
use Rattle.laws.specs.Framing.{unscale}
use Rattle.laws.specs.Levels.{any-item}
use Rattle.claims.specs.Words.{header_of}
use Rattle.claims_rules.specs.Order.{None}
use Rattle.claims_rules.proofs.Rules.{refusal}
use Rattle.claims_rules.proofs.Rules.Allowed.{end, ◌&◌}
use Rattle.claims_rules.specs.Conditions.{framing, opening_of}
use Rattle.claims_rules.proofs.Framed.{framed-found, unframed-first}
use Rattle.claims.specs.Claims.{FramingClaims}

-- one unit: neither `7` `8` `9` nor `-` with `-` or `_` behind it
one-small : (a b : ℕ) → a < 59 → header_of a b ≡ 1
unfolding header_of
one-small a b l = rw (lt-leb 59 a l, ne_eqb a 62 (λ e. omega arith))

two-large : (a b : ℕ) → 59 ≤ a → a < 62 → header_of a b ≡ 2
unfolding header_of
two-large a b l u = rw (le-leb 59 a l, le-leb a 61 (omega arith))

dash : (a b : ℕ) → a ≡ 62 → header_of a b ≡ pick (leb 62 b) 2 1
unfolding header_of
dash a b e = rw e

module _ (a b : ℕ) where
  -- an opening's header has as many units as the first two characters say
  abbrev Units : Opening → Type 0
  Units Unknown = Unit {0}
  Units (Short k n) = header_of a b ≡ 1
  Units (Long k n) = header_of a b ≡ 2
  Units (LargeVariable t l) = header_of a b ≡ 2
  Units (LargeGroup l d) = header_of a b ≡ 2
  Units Version = header_of a b ≡ 2

  found-one : header_of a b ≡ 1 → (chars letter : ℕ) (o : Opening) → Finds chars letter o → Units o
  found-one e chars letter Unknown f = tt
  found-one e chars letter (Short k n) f = e
  found-one e chars letter (Long k n) f = absurd f
  found-one e chars letter (LargeVariable t l) f = absurd f
  found-one e chars letter (LargeGroup l d) f = absurd f
  found-one e chars letter Version f = absurd f

  fixed-one : header_of a b ≡ 1 → (chars letter : ℕ) → Units (fixed chars letter)
  fixed-one e chars letter = found-one e chars letter (fixed chars letter) (fixed-finds chars letter)

  tested : (t : Bool) (o : Opening) → Units o → Units (pick t o Unknown)
  tested t o u = pick-by Units t o Unknown (λ _. u) (λ _. tt)

  opening-units : (c d : ℕ) → Units (opening a b c d)
  unfolding opening is_group
  opening-units c d =
      pick-by Units (ltb a 52) _ _ (λ e. fixed-one (one-small a b (omega (arith, ltb-true a 52 e))) 1 a) (λ _.
      pick-by Units (eqb a 52) _ _ (λ e. fixed-one (one-small a b (omega (arith, eqb-true a 52 e))) 2 b) (λ _.
      pick-by Units (eqb a 53) _ _
      (λ e. tested (eqb b 0) _ (tested (eqb c 0) _ (fixed-one (one-small a b (omega (arith, eqb-true a 53 e))) 4 d))) (λ _.
      pick-by Units (ltb a 56) _ _ (λ _. tt) (λ _.
      pick-by Units (ltb a 59) _ _ (λ e. tested (is_type b) _ (one-small a b (ltb-true a 59 e))) (λ small.
      pick-by Units (ltb a 62) _ _
      (λ e. tested (eqb b 0) _ (tested (eqb c 0) _ (tested (is_type d) _ (two-large a b (ltb-false a 59 small) (ltb-true a 62 e))))) (λ _.
      pick-by Units (eqb a 62) _ _
      (λ e. pick-by Units (is_group b) _ _ (λ g. letter (eqb-true a 62 e) g) (λ _.
      pick-by Units (eqb b 62) _ _ (λ f. tested (is_group c) _ (long (eqb-true a 62 e) (omega (arith, eqb-true b 62 f)))) (λ _.
      pick-by Units (eqb b 63) Version Unknown (λ f. long (eqb-true a 62 e) (omega (arith, eqb-true b 63 f))) (λ _. tt))))
      (λ _. tt)))))))
    where
      long : a ≡ 62 → 62 ≤ b → header_of a b ≡ 2
      long e l = rw (dash a b e, le-leb 62 b l)

      group-low : is_group b ≡ true → b < 62
      group-low g = omega (arith, ltb-true b 29 g)

      letter : a ≡ 62 → is_group b ≡ true → header_of a b ≡ 1
      letter e g = rw (dash a b e, lt-leb 62 b (group-low g))

-- ---- of an opening that is known

opened : (a b : ℕ) (o : Opening) → Units a b o → (o ≡ Unknown → ⊥) → header_units o ≡ header_of a b
unfolding header_units
opened a b Unknown u not = absurd (not refl)
opened a b (Short k n) u not = sym u
opened a b (Long k n) u not = sym u
opened a b (LargeVariable t l) u not = sym u
opened a b (LargeGroup l d) u not = sym u
opened a b Version u not = sym u

pub one-or-two : (a b c d : ℕ) → (opening a b c d ≡ Unknown → ⊥) → header_units (opening a b c d) ≡ header_of a b
one-or-two a b c d = opened a b (opening a b c d) (opening-units a b c d)

-- ---- of an item

known-code : (s : List ℕ) → None (framing false s) → opening_of false s ≡ Unknown → ⊥
known-code s n = n.1.1.1.0

pub header-units : (s : List ℕ) (k : Kind) (h n : ℕ) → frame s ≡ Item k h n → h ≡ header_of (sextet s 0) (sextet s 1)
header-units s k h n e =
    let f = framed-found false s k h n e in
    f.head ∙ one-or-two (sextet s 0) (sextet s 1) (sextet s 2) (sextet s 3) (known-code s f.none)

-- counted in elements
pub header-elements : (d : Domain) (xs : List ℕ) (r : Framed) (k : Kind) (h n : ℕ) → frame_in d xs ≡ r → r ≡ Item k h n
    → head_of r ≡ header_of (sextet (d.sextets xs) 0) (sextet (d.sextets xs) 1) * d.unit
unfolding frame_in frame_ruled frame_next
header-elements d xs r k h n e f =
    let q = unscale d.unit (frame_ruled (d.sextets xs)) {k = k} {h = h} {n = n} (e ∙ f) in
    rw (f, q.3, header-units (d.sextets xs) k q.0 q.1 (any-item false true (d.sextets xs) k q.0 q.1 q.2))

-- ---- framing as claims

pub framing-claims : FramingClaims
framing-claims = record {
  refuses = λ t s m p e. refusal (4 ∷ 5 ∷ 19 ∷ 6 ∷ []) (framing t s) m (λ z. z)
      (inl tt & inl tt & inl tt & inl tt & inl tt & inl tt & inl tt & inl tt & end) (unframed-first t s m p e);
  accepts = λ t s k h n e. (framed-found t s k h n e).none;
  header = λ t s k h n e. (framed-found t s k h n e).head;
  extent-by = λ t s k h n e. (framed-found t s k h n e).size;
  kind-by = λ t s k h n e. (framed-found t s k h n e).kind;
  one-or-two = one-or-two;
}
