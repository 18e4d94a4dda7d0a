-- The table by place is the indexed table by selector and letter: one test that antt computes for each selector, over all letters. No code
-- has another selector. Assumes nothing.
use mathlib.Core.Path.{◌≡◌, refl, sym}
use mathlib.Core.Bool.{Bool, true, false}
use mathlib.Core.List.{List, [], ◌∷◌}
use Prim.Native.Nat.{ℕ, ◌+◌, ◌/◌, ◌<◌}
use native.Mathlib.Omega.{arith}
use borrow.Author.Tests.{eq-eqb, ne_eqb}
use lib.Dec.{T, eqb, ltb, eqb→eq}
use lib.ListN.{get_or}
use Rattle.base.specs.Pick.{pick}
use Rattle.base.specs.Table.{both, both_left, both_right}
use Rattle.base.specs.Below.{all, below}
use Rattle.format.specs.declared.IndexRow.{IndexRow}
use Rattle.format.specs.declared.Kind.{Kind}
use Rattle.format.specs.declared.Kind.TheVariants.{Fixed, Variable, Group, Genus, Indexed}
use Rattle.format.specs.declared.Opening.{Opening}
use Rattle.format.specs.declared.Opening.TheVariants.{Unknown, Short, Long, LargeVariable, LargeGroup, Version}
use Rattle.format.specs.Registry.{indexed_codes, index_head, indexed_row, indexed_among, indexed_by}
use Rattle.registry_table.specs.Unknown.{is_unknown, unknown-opening}
use Rattle.registry_indexed_table.specs.Places.{no_row, row_at, indexed_from}

-- ---- two rows are equal

abbrev same_row : IndexRow → IndexRow → Bool
same_row r s =
    both (eqb r.chars s.chars)
    (both (eqb r.selector s.selector)
    (both (eqb r.letter s.letter)
    (both (eqb r.size s.size)
    (both (eqb r.index s.index)
    (both (eqb r.ondex s.ondex) (both (eqb r.zeros s.zeros) (eqb r.current s.current)))))))

abbrev mk : ℕ → ℕ → ℕ → ℕ → ℕ → ℕ → ℕ → ℕ → IndexRow
mk a b c d e f g h = record { chars = a; selector = b; letter = c; size = d; index = e; ondex = f; zeros = g; current = h }

same-fields : (a b c d e f g h a' b' c' d' e' f' g' h' : ℕ) → a ≡ a' → b ≡ b' → c ≡ c' → d ≡ d' → e ≡ e' → f ≡ f' → g ≡ g' → h ≡ h'
    → mk a b c d e f g h ≡ mk a' b' c' d' e' f' g' h'
same-fields a b c d e f g h a' b' c' d' e' f' g' h' p q r s t u v w = rw (p, q, r, s, t, u, v, w)

-- a test of one field and the others
and-eq : (m n : ℕ) (b : Bool) → T (both (eqb m n) b) → m ≡ n
and-eq m n b t = eqb→eq m n (both_left (eqb m n) b t)

row-eq : (r s : IndexRow) → T (same_row r s) → r ≡ s
row-eq r s t0 =
    let t1 = both_right (eqb r.chars s.chars) _ t0 in
    let t2 = both_right (eqb r.selector s.selector) _ t1 in
    let t3 = both_right (eqb r.letter s.letter) _ t2 in
    let t4 = both_right (eqb r.size s.size) _ t3 in
    let t5 = both_right (eqb r.index s.index) _ t4 in
    let t6 = both_right (eqb r.ondex s.ondex) _ t5 in
    same-fields r.chars r.selector r.letter r.size r.index r.ondex r.zeros r.current
    s.chars s.selector s.letter s.size s.index s.ondex s.zeros s.current
    (and-eq _ _ _ t0) (and-eq _ _ _ t1) (and-eq _ _ _ t2) (and-eq _ _ _ t3) (and-eq _ _ _ t4) (and-eq _ _ _ t5) (and-eq _ _ _ t6)
    (eqb→eq r.current s.current (both_right (eqb r.zeros s.zeros) _ t6))

-- ---- an opening with a header of h units is that of a row, or unknown

is_kind : ℕ → IndexRow → Kind → ℕ → Bool
is_kind h r (Indexed c) n = both (eqb (index_head r) h) (both (same_row c r) (eqb n (r.size / 4)))
is_kind h r (Fixed c) n = false
is_kind h r (Variable t l m) n = false
is_kind h r (Group l) n = false
is_kind h r Genus n = false

is_row : IndexRow → Opening → Bool
is_row r (Short k n) = is_kind 1 r k n
is_row r (Long k n) = is_kind 2 r k n
is_row r Unknown = false
is_row r (LargeVariable t l) = false
is_row r (LargeGroup l d) = false
is_row r Version = false

short_row : (r : IndexRow) (k : Kind) (n : ℕ) → T (is_kind 1 r k n) → Short k n ≡ indexed_row r
unfolding is_kind indexed_row
short_row r (Indexed c) n t =
    let u = both_right (eqb (index_head r) 1) _ t in
    rw (
      eq-eqb (index_head r) 1 (and-eq _ _ _ t),
      row-eq c r (both_left (same_row c r) _ u),
      eqb→eq n (r.size / 4) (both_right (same_row c r) _ u),
    )
short_row r (Fixed c) n z = absurd z
short_row r (Variable t l m) n z = absurd z
short_row r (Group l) n z = absurd z
short_row r Genus n z = absurd z

long-row : (r : IndexRow) (k : Kind) (n : ℕ) → T (is_kind 2 r k n) → Long k n ≡ indexed_row r
unfolding is_kind indexed_row
long-row r (Indexed c) n t =
    let u = both_right (eqb (index_head r) 2) _ t in
    let two : index_head r ≡ 2 = and-eq _ _ _ t in
    rw (
      ne_eqb (index_head r) 1 (λ e. omega arith),
      row-eq c r (both_left (same_row c r) _ u),
      eqb→eq n (r.size / 4) (both_right (same_row c r) _ u),
    )
long-row r (Fixed c) n z = absurd z
long-row r (Variable t l m) n z = absurd z
long-row r (Group l) n z = absurd z
long-row r Genus n z = absurd z

row-opening : (r : IndexRow) (o : Opening) → T (is_row r o) → o ≡ indexed_row r
unfolding is_row
row-opening r (Short k n) t = short_row r k n t
row-opening r (Long k n) t = long-row r k n t
row-opening r Unknown z = absurd z
row-opening r (LargeVariable t l) z = absurd z
row-opening r (LargeGroup l d) z = absurd z
row-opening r Version z = absurd z

-- ---- the test

right_at : ℕ → ℕ → ℕ → ℕ → Bool
right_at selector from count letter =
    pick (ltb letter count) (is_row (get_or indexed_codes (from + letter) no_row) (indexed_by selector letter)) (is_unknown (indexed_by selector letter))

by_place : (b : Bool) (r : IndexRow) (o : Opening) → T (pick b (is_row r o) (is_unknown o)) → o ≡ pick b (indexed_row r) Unknown
by_place true r o t = row-opening r o t
by_place false r o t = unknown-opening o t

indexed-by : (selector from count : ℕ) → T (all (right_at selector from count) 256) → (l : ℕ) → l < 256
    → indexed_from from count l ≡ indexed_by selector l
unfolding right_at indexed_from row_at
indexed-by selector from count t l h =
    sym (by_place (ltb l count) (get_or indexed_codes (from + l) no_row) (indexed_by selector l) (below (right_at selector from count) 256 t l h))

pub one-letter : (l : ℕ) → l < 256 → indexed_from 0 4 l ≡ indexed_by 0 l
unfolding right_at is_row is_kind is_unknown indexed_codes index_head indexed_row indexed_by indexed_among
one-letter = indexed-by 0 0 4 tt

pub zero-letter : (l : ℕ) → l < 256 → indexed_from 4 2 l ≡ indexed_by 52 l
unfolding right_at is_row is_kind is_unknown indexed_codes index_head indexed_row indexed_by indexed_among
zero-letter = indexed-by 52 4 2 tt

pub two-letter : (l : ℕ) → l < 256 → indexed_from 6 4 l ≡ indexed_by 54 l
unfolding right_at is_row is_kind is_unknown indexed_codes index_head indexed_row indexed_by indexed_among
two-letter = indexed-by 54 6 4 tt

pub three-letter : (l : ℕ) → l < 256 → indexed_from 10 2 l ≡ indexed_by 55 l
unfolding right_at is_row is_kind is_unknown indexed_codes index_head indexed_row indexed_by indexed_among
three-letter = indexed-by 55 10 2 tt

-- ---- no code has another selector

is_selector : ℕ → Bool
is_selector n = pick (eqb n 0) true (pick (eqb n 52) true (pick (eqb n 54) true (eqb n 55)))

selectors_right : List IndexRow → Bool
selectors_right [] = true
selectors_right (c ∷ cs) = both (is_selector c.selector) (selectors_right cs)

-- two numbers that a test tells apart are different
apart : (m n : ℕ) → T (is_selector m) → is_selector n ≡ false → m ≡ n → ⊥
apart m n t f e = let q : T false = rw (e, f) at t in q

among_none : (cs : List IndexRow) → T (selectors_right cs) → (selector letter : ℕ) → is_selector selector ≡ false
    → indexed_among cs selector letter ≡ Unknown
unfolding selectors_right indexed_among
among_none [] t selector letter h = refl
among_none (c ∷ cs) t selector letter h =
    rw (ne_eqb c.selector selector (apart c.selector selector (both_left (is_selector c.selector) _ t) h))
    (among_none cs (both_right (is_selector c.selector) _ t) selector letter h)

pub no_code : (selector letter : ℕ) → (selector ≡ 0 → ⊥) → (selector ≡ 52 → ⊥) → (selector ≡ 54 → ⊥) → (selector ≡ 55 → ⊥)
    → Unknown ≡ indexed_by selector letter
unfolding indexed_by selectors_right is_selector indexed_codes
no_code selector letter a b c d =
    sym (among_none indexed_codes tt selector letter
    (simp (ne_eqb selector 0 a, ne_eqb selector 52 b, ne_eqb selector 54 c, ne_eqb selector 55 d)))
