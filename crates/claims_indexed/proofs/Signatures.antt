-- Signature groups and their items, as 02 a has them. Assumes nothing.
use Rattle.std.specs.Prelude.{ℕ, suc, ◌+◌, ◌-◌, ◌*◌, ◌/◌, ◌%◌, ◌≤◌, ◌<◌, ◌≡◌, refl, List, [], ◌∷◌, Bool, true, false, ◌⊎◌, ltb, eqb, length, drop}
use Rattle.std.proofs.Common.{ap, sym, ◌∙◌, inl, inr, ⊎_elim, arith, lt-ltb, le-ltb, eqb-true}
use Rattle.std.proofs.lemmas.Bool.{eqb-false}
use Rattle.base.specs.Pick.{pick, pick-by}
use Rattle.base.specs.Cases.{lt-or-ge}
use Rattle.format.specs.declared.IndexRow.{IndexRow}
use Rattle.format.specs.declared.Kind.{Kind}
use Rattle.format.specs.declared.Kind.TheVariants.{Group, Indexed}
use Rattle.format.specs.declared.Opening.{Opening}
use Rattle.format.specs.declared.Opening.TheVariants.{Unknown, Short, Long}
use Rattle.format.specs.declared.Framed.TheVariants.{Item, Unframed}
use Rattle.format.specs.Registry.{is_indexed, is_overrideable, index_chars, indexed_codes, index_head, indexed_row, indexed_opening, header_units}
use Rattle.format.specs.Registry.{letter_indexed, zero_indexed, two_indexed, three_indexed}
use Rattle.format.specs.Framing.{known, headed, frame_with, sextet, digits4, frame, frame_indexed}
use Rattle.format.specs.Judging.{shift, and_then, unless, behind, zero_bits, ondex_right, in_turn, contents, judge_kind, judge_by, judge_with, judge}
use Rattle.format.specs.Values.{ondex_of}
use Rattle.laws.specs.Framing.{known_next}
use Rattle.claims_rules.specs.Order.{First, None}
use Rattle.claims_rules.specs.Conditions.{kind_in, opening_of, framing, SetOndex}
use Rattle.claims_rules.proofs.Framed.{framed-found, unframed-first}
use Rattle.claims_rules.proofs.Judged.{ondex-set}
use Rattle.claims_requests.proofs.Short.{other-group}
use Rattle.claims_indexed.specs.Words.{OneOf, IndexedStart}
use Rattle.claims_indexed.proofs.Opened.{RowOf, letter, after-0, after-2, after-3, Opened, nothing, row, opened, one_of}
use Rattle.claims_indexed.specs.Claims.{SignatureClaims}

-- ---- groups

-- what a group's letter says
told : (letter : ℕ) → (letter ≡ 10) ⊎ (letter ≡ 11) → (is_indexed letter ≡ true) × (is_overrideable letter ≡ false)
unfolding is_indexed is_overrideable
told l (inl e) = rw e (refl, refl)
told l (inr e) = rw e (refl, refl)

untold : (letter : ℕ) → ((letter ≡ 10) ⊎ (letter ≡ 11) → ⊥) → is_indexed letter ≡ false
unfolding is_indexed
untold l n =
    pick-by (λ (b : Bool). b ≡ false) (eqb l 10) _ _ (λ e. absurd (n (inl (eqb-true l 10 e)))) (λ _. other (eqb l 11) refl)
  where
    other : (b : Bool) → eqb l 11 ≡ b → b ≡ false
    other true e = absurd (n (inr (eqb-true l 11 e)))
    other false e = refl

-- ---- what a framed item's first sextets open

kind-is : (c : IndexRow) (n : ℕ) → kind_in (indexed_row c) n ≡ Indexed c
unfolding indexed_row
kind-is c n = pick-by (λ (o : Opening). kind_in o n ≡ Indexed c) (eqb (index_head c) 1) _ _ (λ _. refl) (λ _. refl)

-- its row
record There (s : List ℕ) (k : Kind) (h : ℕ) : Type 0 where
  code : IndexRow
  of-start : RowOf (sextet s 0) (sextet s 1) code
  kind : k ≡ Indexed code
  head : h ≡ header_units (indexed_row code)

there : (s : List ℕ) (k : Kind) (h n : ℕ) → frame_indexed s ≡ Item k h n → There s k h
there s k h n e = by (opened (sextet s 0) (sextet s 1) (sextet s 2) (sextet s 3))
  where
    by : Opened (sextet s 0) (sextet s 1) (opening_of true s) → There s k h
    by (nothing other u) = absurd ((framed-found true s k h n e).none.1.1.1.0 u)
    by (row c r o) =
        let f = framed-found true s k h n e in
        record {
          code = c;
          of-start = r;
          kind = f.kind ∙ ap (λ (x : Opening). kind_in x (digits4 (sextet s))) o ∙ kind-is c (digits4 (sextet s));
          head = f.head ∙ ap header_units o;
        }

same_row : (c d : IndexRow) → Indexed c ≡ Indexed d → c ≡ d
same_row c d e = cc

-- of a row with its first sextets
module _ (s : List ℕ) (c : IndexRow) (h n : ℕ) (e : frame_indexed s ≡ Item (Indexed c) h n) where
  of_row : RowOf (sextet s 0) (sextet s 1) c
  of_row = let t = there s (Indexed c) h n e in rw (same_row c t.code t.kind) t.of-start

-- ---- headers

head-one : (a b : ℕ) (c : IndexRow) → RowOf a b c → a < 54 → header_units (indexed_row c) ≡ 1
unfolding indexed_row index_head header_units
head-one a b c (letter h e) l = rw e
head-one a b c (after-0 s h e) l = rw e
head-one a b c (after-2 s h e) l = absurd (omega arith)
head-one a b c (after-3 s h e) l = absurd (omega arith)

head-two : (a b : ℕ) (c : IndexRow) → RowOf a b c → 54 ≤ a → header_units (indexed_row c) ≡ 2
unfolding indexed_row index_head header_units
head-two a b c (letter h e) l = absurd (omega arith)
head-two a b c (after-0 s h e) l = absurd (omega arith)
head-two a b c (after-2 s h e) l = rw e
head-two a b c (after-3 s h e) l = rw e

from-54 : (a : ℕ) → (a ≡ 54) ⊎ (a ≡ 55) → 54 ≤ a
from-54 a (inl e) = omega arith
from-54 a (inr e) = omega arith

-- ---- pad bits

bits-four : (a b : ℕ) (c : IndexRow) → RowOf a b c → (a < 4) ⊎ (a ≡ 54) → c.zeros ≡ 4
bits-four a b c (letter h e) l = rw e
bits-four a b c (after-2 s h e) l = rw e
bits-four a b c (after-0 s h e) l = absurd (⊎_elim (λ (p : a < 4). no p) (λ (p : a ≡ 54). nor p) l)
  where
    no : a < 4 → ⊥
    no p = omega arith

    nor : a ≡ 54 → ⊥
    nor p = omega arith
bits-four a b c (after-3 s h e) l = absurd (⊎_elim (λ (p : a < 4). no p) (λ (p : a ≡ 54). nor p) l)
  where
    no : a < 4 → ⊥
    no p = omega arith

    nor : a ≡ 54 → ⊥
    nor p = omega arith

bits_none : (a b : ℕ) (c : IndexRow) → RowOf a b c → (a ≡ 52) ⊎ (a ≡ 55) → c.zeros ≡ 0
bits_none a b c (after-0 s h e) l = rw e
bits_none a b c (after-3 s h e) l = rw e
bits_none a b c (letter h e) l = absurd (⊎_elim (λ (p : a ≡ 52). no p) (λ (p : a ≡ 55). nor p) l)
  where
    no : a ≡ 52 → ⊥
    no p = omega arith

    nor : a ≡ 55 → ⊥
    nor p = omega arith
bits_none a b c (after-2 s h e) l = absurd (⊎_elim (λ (p : a ≡ 52). no p) (λ (p : a ≡ 55). nor p) l)
  where
    no : a ≡ 52 → ⊥
    no p = omega arith

    nor : a ≡ 55 → ⊥
    nor p = omega arith

-- ---- other starts

unit-known : (s : List ℕ) → 4 ≤ length s → ((i : ℕ) → i < 4 → sextet s i < 64) → (IndexedStart (sextet s 0) (sextet s 1) → ⊥)
    → frame_indexed s ≡ Unframed 6 0
unfolding frame_indexed frame_with headed
unit-known s l k other = by (opened (sextet s 0) (sextet s 1) (sextet s 2) (sextet s 3))
  where
    start_of : (c : IndexRow) → RowOf (sextet s 0) (sextet s 1) c → IndexedStart (sextet s 0) (sextet s 1)
    start_of c (letter h e) = inl h
    start_of c (after-0 a h e) = inr (inl (a, h))
    start_of c (after-2 a h e) = inr (inr (inl (a, h)))
    start_of c (after-3 a h e) = inr (inr (inr (a, h)))

    by : Opened (sextet s 0) (sextet s 1) (indexed_opening (sextet s 0) (sextet s 1) (sextet s 2) (sextet s 3))
        → pick (ltb (length s / 4) 1) (Unframed 4 0)
        (known (sextet s) 0 (headed (indexed_opening (sextet s 0) (sextet s 1) (sextet s 2) (sextet s 3)) (sextet s) (length s / 4)))
        ≡ Unframed 6 0
    by (row c r o) = absurd (other (start_of c r))
    by (nothing n u) =
        rw (
          le-ltb (length s / 4) 1 (omega arith),
          known_next (sextet s) 0 _
              (lt-ltb _ 64 (k 0 (omega arith)), lt-ltb _ 64 (k 1 (omega arith)), lt-ltb _ 64 (k 2 (omega arith)), lt-ltb _ 64 (k 3 (omega arith))),
          u,
        )

row-known : (c : IndexRow) → indexed_row c ≡ Unknown → ⊥
unfolding indexed_row
row-known c =
    pick-by (λ (o : Opening). o ≡ Unknown → ⊥) (eqb (index_head c) 1) _ _ (λ _ e. let z : ◌≡◌ {A = ℕ} 0 1 = cc in omega arith)
    (λ _ e. let z : ◌≡◌ {A = ℕ} 0 1 = cc in omega arith)

-- 6 is given for an unknown code alone
six-unknown : (s : List ℕ) → First (framing true s) 6 → opening_of true s ≡ Unknown
six-unknown s (inl f) = absurd (omega (arith, f.1))
six-unknown s (inr (_, inl f)) = absurd (omega (arith, f.1))
six-unknown s (inr (_, inr (_, inl f))) = absurd (omega (arith, f.1))
six-unknown s (inr (_, inr (_, inr (_, inl f)))) = f.0
six-unknown s (inr (_, inr (_, inr (_, inr (_, inl f))))) = absurd (omega (arith, f.1))
six-unknown s (inr (_, inr (_, inr (_, inr (_, inr (_, inl f)))))) = absurd (omega (arith, f.1))
six-unknown s (inr (_, inr (_, inr (_, inr (_, inr (_, inr (_, inl f))))))) = absurd (omega (arith, f.1))
six-unknown s (inr (_, inr (_, inr (_, inr (_, inr (_, inr (_, inr (_, inl f)))))))) = absurd (omega (arith, f.1))
six-unknown s (inr (_, inr (_, inr (_, inr (_, inr (_, inr (_, inr (_, inr (_, f))))))))) = absurd f

start-known : (s : List ℕ) (p : ℕ) → IndexedStart (sextet s 0) (sextet s 1) → frame_indexed s ≡ Unframed 6 p → ⊥
start-known s p a e = by (opened (sextet s 0) (sextet s 1) (sextet s 2) (sextet s 3))
  where
    by : Opened (sextet s 0) (sextet s 1) (opening_of true s) → ⊥
    by (nothing other u) = other a
    by (row c r o) = row-known c (sym o ∙ six-unknown s (unframed-first true s 6 p e))

-- ---- 15

no-digits : (c : IndexRow) (s : List ℕ) → c.ondex ≡ 0 → ondex_of c s ≡ 0
unfolding ondex_of
no-digits c s e = rw e

abbrev Current : ℕ → ℕ → Type 0
Current a b = ((b ≡ 1) × ((a ≡ 52) ⊎ ((a ≡ 54) ⊎ (a ≡ 55)))) ⊎ ((a ≡ 54) × (b ≡ 3))

-- an odd letter
odd-of-two : (b : ℕ) → b < 2 → (b % 2 ≡ 0 → ⊥) → b ≡ 1
odd-of-two b h z = ⊎_elim (λ l. absurd (z (omega arith))) (λ g. omega arith) (lt-or-ge b 1)

odd-of-four : (b : ℕ) → b < 4 → (b % 2 ≡ 0 → ⊥) → (b ≡ 1) ⊎ (b ≡ 3)
odd-of-four b h z =
    ⊎_elim (λ l. inl (odd-of-two b l z)) (λ g. ⊎_elim (λ l. absurd (z (omega arith))) (λ k. inr (omega arith)) (lt-or-ge b 3)) (lt-or-ge b 2)

current : (a b : ℕ) (c : IndexRow) (s : List ℕ) → RowOf a b c → SetOndex c (ondex_of c s) → Current a b
current a b c s (letter h e) q = absurd (q.1 (no-digits c s (rw e)))
current a b c s (after-0 f h e) q = inl (odd-of-two b h (λ y. q.0 (ap (λ (r : IndexRow). r.current) e ∙ y)), inl f)
current a b c s (after-2 f h e) q =
    ⊎_elim (λ y. inl (y, inr (inl f))) (λ y. inr (f, y)) (odd-of-four b h (λ y. q.0 (ap (λ (r : IndexRow). r.current) e ∙ y)))
current a b c s (after-3 f h e) q = inl (odd-of-two b h (λ y. q.0 (ap (λ (r : IndexRow). r.current) e ∙ y)), inr (inr f))

verdict : (l : ℕ) (s : List ℕ) (c : IndexRow) (h n : ℕ) → frame_indexed s ≡ Item (Indexed c) h n
    → judge_with true l s
    ≡ and_then (behind h s) (and_then (unless 8 (zero_bits s (index_chars c) c.zeros)) (unless 15 (ondex_right c (ondex_of c s))))
unfolding judge_with judge_by judge_kind
verdict l s c h n e = rw e

-- ---- all of it

pub signature-claims : SignatureClaims
unfolding indexed_codes
signature-claims = record {
  signatures = λ l letter h size s k e own many.
      let t = told letter k in
      let g = other-group l letter h size s e own many in
      rw (t.0, t.1) at g;
  other-groups = λ l letter h size s k e own many.
      let g = other-group l letter h size s e own many in
      rw (untold letter k) at g;
  twelve = refl;
  nothing-else = λ s k h n e. let t = there s k h n e in (t.code, t.kind, one_of (sextet s 0) (sextet s 1) t.code t.of-start);
  other-starts = unit-known;
  starts = start-known;
  one_unit = λ s k h n e l. let t = there s k h n e in t.head ∙ head-one (sextet s 0) (sextet s 1) t.code t.of-start l;
  two-units = λ s k h n e l.
      let t = there s k h n e in
      t.head ∙ head-two (sextet s 0) (sextet s 1) t.code t.of-start (from-54 (sextet s 0) l);
  four-bits = λ s c h n e. bits-four (sextet s 0) (sextet s 1) c (of_row s c h n e);
  no_bits = λ s c h n e. bits_none (sextet s 0) (sextet s 1) c (of_row s c h n e);
  verdict = verdict;
  current-only = λ s c h n e q. current (sextet s 0) (sextet s 1) c s (of_row s c h n e) (ondex-set c (ondex_of c s) q);
  no-digits = no-digits;
}
