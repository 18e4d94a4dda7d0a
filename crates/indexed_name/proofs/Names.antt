-- A code by its characters is the row by their sextets: of each row one computed test, of every search one law. Assumes nothing.
use Prim.Native.Nat.{ℕ, ◌<◌, ◌≤◌}
use mathlib.Core.Path.{◌≡◌, refl, sym, ◌∙◌}
use mathlib.Core.List.{List, [], ◌∷◌}
use mathlib.Core.Bool.{Bool, true, false}
use mathlib.Core.Logic.{⊎_elim}
use native.Mathlib.Omega.{arith}
use borrow.Author.Tests.{eq-eqb, ne_eqb, eqb-true, eqb-false}
use lib.Dec.{T, eqb, ltb, leb, eqb→eq, ltb→lt, leb→le}
use Rattle.base.specs.Pick.{pick, pick-by}
use Rattle.base.specs.Cases.{whether}
use Rattle.base.specs.Table.{both, both_left, both_right}
use Rattle.format.specs.declared.IndexRow.{IndexRow}
use Rattle.format.specs.declared.IndexCode.{IndexCode}
use Rattle.format.specs.declared.Opening.{Opening}
use Rattle.format.specs.Alphabet.{sextet_of, char_of}
use Rattle.format.specs.Registry.{indexed_codes, index_head, indexed_row, indexed_among, indexed_by}
use Rattle.format.specs.Indexed.{code_of_row, IndexNamed, none, row, is_code_of, named_index_among, named_index}
use Rattle.laws.specs.Alphabet.{sextet-char, char-sextet}
use Rattle.indexed_name.specs.Names.{selector_of, row_of, row_in}

-- ---- two tests that say the same

alike : (a b c d : ℕ) → (a ≡ b → c ≡ d) → (c ≡ d → a ≡ b) → eqb a b ≡ eqb c d
alike a b c d f g =
    ⊎_elim (λ e. e ∙ sym (eq-eqb c d (f (eqb-true a b e)))) (λ e. e ∙ sym (ne_eqb c d (λ z. eqb-false a b e (g z)))) (whether (eqb a b))

letter-alike : (v l : ℕ) → v < 64 → eqb v (sextet_of l) ≡ eqb l (char_of v)
letter-alike v l h =
    alike v (sextet_of l) l (char_of v) (λ e. rw e (sym (char-sextet l (omega arith)))) (λ e. rw e (sym (sextet-char v h)))

-- ---- selectors

none-zero : sextet_of 0 ≡ 64
unfolding sextet_of
none-zero = refl

alone-alike : (s : ℕ) → eqb 0 (selector_of s) ≡ eqb s 0
unfolding selector_of
alone-alike s = alike 0 (selector_of s) s 0 back (λ e. rw e refl)
  where
    back : 0 ≡ selector_of s → s ≡ 0
    back =
        pick-by (λ (m : ℕ). 0 ≡ m → s ≡ 0) (eqb s 0) _ _ (λ e _. eqb-true s 0 e)
        (λ _. pick-by (λ (m : ℕ). 0 ≡ m → s ≡ 0) (eqb (sextet_of s) 0) _ _ (λ _ z. absurd (omega arith)) (λ e z. absurd (eqb-false _ _ e (sym z))))

some_alike : (v s : ℕ) → 0 < v → v < 64 → eqb v (selector_of s) ≡ eqb s (char_of v)
unfolding selector_of
some_alike v s p l = alike v (selector_of s) s (char_of v) back forth
  where
    back : v ≡ selector_of s → s ≡ char_of v
    back =
        pick-by (λ (m : ℕ). v ≡ m → s ≡ char_of v) (eqb s 0) _ _ (λ _ z. absurd (omega arith))
        (λ _. pick-by (λ (m : ℕ). v ≡ m → s ≡ char_of v) (eqb (sextet_of s) 0) _ _ (λ _ z. absurd (omega arith))
        (λ _ z. rw z (sym (char-sextet s (omega arith)))))

    forth : s ≡ char_of v → v ≡ selector_of s
    forth e =
        let back_to : sextet_of s ≡ v = rw e (sextet-char v l) in
        pick-by (λ (m : ℕ). v ≡ m) (eqb s 0) _ _
        (λ z. let at : sextet_of s ≡ 64 = rw (eqb-true s 0 z) none-zero in absurd (omega arith))
        (λ _. pick-by (λ (m : ℕ). v ≡ m) (eqb (sextet_of s) 0) _ _ (λ z. absurd (omega (arith, eqb-true (sextet_of s) 0 z))) (λ _. sym back_to))

selector-alike : (b : Bool) (v s : ℕ) → T (pick b (eqb v 0) (both (ltb 0 v) (ltb v 64))) → eqb v (selector_of s) ≡ eqb s (pick b 0 (char_of v))
selector-alike true v s t = rw (eqb→eq v 0 t) (alone-alike s)
selector-alike false v s t = some_alike v s (ltb→lt 0 v (both_left (ltb 0 v) _ t)) (ltb→lt v 64 (both_right (ltb 0 v) _ t))

-- ---- every row

is_coded : IndexRow → Bool
is_coded c =
    both (ltb c.letter 64)
    (both (pick (eqb c.chars 1) (eqb c.selector 0) (both (ltb 0 c.selector) (ltb c.selector 64))) (both (leb c.index 3) (leb c.ondex 3)))

all_coded : List IndexRow → Bool
all_coded [] = true
all_coded (c ∷ cs) = both (is_coded c) (all_coded cs)

table-coded : T (all_coded indexed_codes)
unfolding all_coded is_coded indexed_codes
table-coded = tt

-- ---- the search

row-in-row : (c : IndexRow) → row_in (indexed_row c) ≡ row c
unfolding row_in row_of indexed_row
row-in-row c = pick-by (λ (o : Opening). row_in o ≡ row c) (eqb (index_head c) 1) _ _ (λ _. refl) (λ _. refl)

row_by : (c : IndexRow) (a b : Bool) (o : Opening) (n : IndexNamed) → row_in o ≡ n
    → row_in (pick a (pick b (indexed_row c) o) o) ≡ pick (pick a b false) (row c) n
row_by c true true o n e = row-in-row c
row_by c true false o n e = e
row_by c false b o n e = e

among-named : (cs : List IndexRow) → T (all_coded cs) → (code : IndexCode)
    → row_in (indexed_among cs (selector_of code.selector) (sextet_of code.letter)) ≡ named_index_among cs code
unfolding row_in indexed_among named_index_among is_code_of code_of_row all_coded is_coded
among-named [] t code = refl
among-named (c ∷ cs) t code =
    let coded = both_left (is_coded c) (all_coded cs) t in
    let rest = both_right (ltb c.letter 64) _ coded in
    rw (
      selector-alike (eqb c.chars 1) c.selector code.selector (both_left (pick (eqb c.chars 1) (eqb c.selector 0) (both (ltb 0 c.selector) (ltb c.selector 64))) _ rest),
      letter-alike c.letter code.letter (ltb→lt _ _ (both_left (ltb c.letter 64) _ coded)),
    )
    (row_by c (eqb code.selector (code_of_row c).selector) (eqb code.letter (code_of_row c).letter) (indexed_among cs (selector_of code.selector) (sextet_of code.letter)) (named_index_among cs code)
    (among-named cs (both_right (is_coded c) (all_coded cs) t) code))

pub by-sextets : (code : IndexCode) → row_in (indexed_by (selector_of code.selector) (sextet_of code.letter)) ≡ named_index code
unfolding indexed_by named_index
by-sextets = among-named indexed_codes table-coded

-- ---- what is named has few digits

abbrev FewIn : IndexNamed → Type 0
FewIn none = Unit {0}
FewIn (row c) = (c.index ≤ 3) × (c.ondex ≤ 3)

among-few : (cs : List IndexRow) → T (all_coded cs) → (code : IndexCode) → FewIn (named_index_among cs code)
unfolding named_index_among all_coded is_coded
among-few [] t code = tt
among-few (c ∷ cs) t code =
    let coded = both_left (is_coded c) (all_coded cs) t in
    let digits = both_right (pick (eqb c.chars 1) (eqb c.selector 0) (both (ltb 0 c.selector) (ltb c.selector 64))) _ (both_right (ltb c.letter 64) _ coded) in
    pick-by FewIn (is_code_of c code) _ _
    (λ _. (leb→le _ _ (both_left (leb c.index 3) _ digits), leb→le _ _ (both_right (leb c.index 3) _ digits)))
    (λ _. among-few cs (both_right (is_coded c) (all_coded cs) t) code)

pub few : (code : IndexCode) (c : IndexRow) → row c ≡ named_index code → (c.index ≤ 3) × (c.ondex ≤ 3)
unfolding named_index
few code c e = rw (← e) at (among-few indexed_codes table-coded code)
