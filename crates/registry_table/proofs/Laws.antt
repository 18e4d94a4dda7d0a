-- The table by place is the registry by letter: one test that antt computes for each code length, over all letters.
-- Assumes nothing.
use mathlib.Core.Path.{◌≡◌, refl, sym}
use mathlib.Core.Bool.{Bool, true, false}
use mathlib.Core.List.{List, [], ◌∷◌}
use Prim.Native.Nat.{ℕ, ◌+◌, ◌/◌, ◌<◌}
use borrow.Author.Tests.{ne_eqb}
use lib.Dec.{T, eqb, ltb, eqb→eq}
use lib.ListN.{get_or}
use Rattle.base.specs.Pick.{pick}
use Rattle.base.specs.Table.{both, both_left, both_right}
use Rattle.base.specs.Below.{all, below}
use Rattle.format.specs.declared.CodeRow.{CodeRow}
use Rattle.format.specs.declared.Kind.TheVariants.{Fixed, Variable, Group, Genus, Indexed}
use Rattle.format.specs.declared.Opening.{Opening}
use Rattle.format.specs.declared.Opening.TheVariants.{Unknown, Short, Long, LargeVariable, LargeGroup, Version}
use Rattle.format.specs.Registry.{codes, fixed, fixed_among}
use Rattle.registry_table.specs.Unknown.{is_unknown, unknown-opening}
use Rattle.registry_table.specs.Places.{no_row, row_at, fixed_row, fixed_from}

-- ---- two rows are equal

abbrev same_row : CodeRow → CodeRow → Bool
same_row r s =
    both (eqb r.chars s.chars)
    (both (eqb r.letter s.letter)
    (both (eqb r.size s.size) (both (eqb r.pad s.pad) (both (eqb r.lead s.lead) (eqb r.tag s.tag)))))

abbrev mk : ℕ → ℕ → ℕ → ℕ → ℕ → ℕ → CodeRow
mk a b c d e f = record { chars = a; letter = b; size = c; pad = d; lead = e; tag = f }

same-fields : (a b c d e f a' b' c' d' e' f' : ℕ) → a ≡ a' → b ≡ b' → c ≡ c' → d ≡ d' → e ≡ e' → f ≡ f' → mk a b c d e f ≡ mk a' b' c' d' e' f'
same-fields a b c d e f a' b' c' d' e' f' p q r s t u = rw (p, q, r, s, t, u)

-- a test of one field and the others
and-eq : (m n : ℕ) (b : Bool) → T (both (eqb m n) b) → m ≡ n
and-eq m n b t = eqb→eq m n (both_left (eqb m n) b t)

row-eq : (r s : CodeRow) → T (same_row r s) → r ≡ s
row-eq r s t =
    let t1 = both_right (eqb r.chars s.chars) _ t in
    let t2 = both_right (eqb r.letter s.letter) _ t1 in
    let t3 = both_right (eqb r.size s.size) _ t2 in
    let t4 = both_right (eqb r.pad s.pad) _ t3 in
    same-fields r.chars r.letter r.size r.pad r.lead r.tag s.chars s.letter s.size s.pad s.lead s.tag
    (and-eq _ _ _ t) (and-eq _ _ _ t1) (and-eq _ _ _ t2) (and-eq _ _ _ t3) (and-eq _ _ _ t4)
    (eqb→eq r.tag s.tag (both_right (eqb r.lead s.lead) _ t4))

-- ---- an opening is that of a row, or unknown

is_row : CodeRow → Opening → Bool
is_row r (Short (Fixed c) n) = both (same_row c r) (eqb n (r.size / 4))
is_row r (Short (Variable t l n) m) = false
is_row r (Short (Group l) m) = false
is_row r (Short Genus m) = false
is_row r (Short (Indexed c) m) = false
is_row r (Long k m) = false
is_row r Unknown = false
is_row r (LargeVariable t l) = false
is_row r (LargeGroup l d) = false
is_row r Version = false

row-opening : (r : CodeRow) (o : Opening) → T (is_row r o) → o ≡ fixed_row r
unfolding is_row
row-opening r (Short (Fixed c) n) t = rw (row-eq c r (both_left (same_row c r) (eqb n (r.size / 4)) t), eqb→eq n (r.size / 4) (both_right (same_row c r) _ t))
row-opening r (Short (Variable t l n) m) z = absurd z
row-opening r (Short (Group l) m) z = absurd z
row-opening r (Short Genus m) z = absurd z
row-opening r (Short (Indexed c) m) z = absurd z
row-opening r (Long k m) z = absurd z
row-opening r Unknown z = absurd z
row-opening r (LargeVariable t l) z = absurd z
row-opening r (LargeGroup l d) z = absurd z
row-opening r Version z = absurd z

-- ---- the test

right_at : ℕ → ℕ → ℕ → ℕ → Bool
right_at chars from count letter = pick (ltb letter count) (is_row (get_or codes (from + letter) no_row) (fixed chars letter)) (is_unknown (fixed chars letter))

by_place : (b : Bool) (r : CodeRow) (o : Opening) → T (pick b (is_row r o) (is_unknown o)) → o ≡ pick b (fixed_row r) Unknown
by_place true r o t = row-opening r o t
by_place false r o t = unknown-opening o t

fixed-by : (chars from count : ℕ) → T (all (right_at chars from count) 256) → (l : ℕ) → l < 256 → fixed_from from count l ≡ fixed chars l
unfolding right_at fixed_from row_at
fixed-by chars from count t l h =
    sym (by_place (ltb l count) (get_or codes (from + l) no_row) (fixed chars l) (below (right_at chars from count) 256 t l h))

pub one-letter : (l : ℕ) → l < 256 → fixed_from 0 27 l ≡ fixed 1 l
unfolding right_at is_row is_unknown codes fixed fixed_among
one-letter = fixed-by 1 0 27 tt

pub zero-letter : (l : ℕ) → l < 256 → fixed_from 27 15 l ≡ fixed 2 l
unfolding right_at is_row is_unknown codes fixed fixed_among
zero-letter = fixed-by 2 27 15 tt

pub one-aa : (l : ℕ) → l < 256 → fixed_from 42 16 l ≡ fixed 4 l
unfolding right_at is_row is_unknown codes fixed fixed_among
one-aa = fixed-by 4 42 16 tt

-- no code has another number of characters

is_length : ℕ → Bool
is_length n = pick (eqb n 1) true (pick (eqb n 2) true (eqb n 4))

lengths_right : List CodeRow → Bool
lengths_right [] = true
lengths_right (c ∷ cs) = both (is_length c.chars) (lengths_right cs)

-- two numbers that a test tells apart are different
apart : (m n : ℕ) → T (is_length m) → is_length n ≡ false → m ≡ n → ⊥
apart m n t f e = let q : T false = rw (e, f) at t in q

among_none : (cs : List CodeRow) → T (lengths_right cs) → (chars letter : ℕ) → is_length chars ≡ false → fixed_among cs chars letter ≡ Unknown
unfolding lengths_right fixed_among
among_none [] t chars letter h = refl
among_none (c ∷ cs) t chars letter h =
    rw (ne_eqb c.chars chars (apart c.chars chars (both_left (is_length c.chars) _ t) h))
    (among_none cs (both_right (is_length c.chars) _ t) chars letter h)

pub no_code : (chars letter : ℕ) → (chars ≡ 1 → ⊥) → (chars ≡ 2 → ⊥) → (chars ≡ 4 → ⊥) → Unknown ≡ fixed chars letter
unfolding fixed lengths_right is_length codes
no_code chars letter a b d = sym (among_none codes tt chars letter (simp (ne_eqb chars 1 a, ne_eqb chars 2 b, ne_eqb chars 4 d)))
