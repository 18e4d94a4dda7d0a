-- The rows of the indexed table: what is true of each, by one computed test and two computed searches a row. Assumes nothing.
use Rattle.std.specs.Prelude.{ℕ, ◌+◌, ◌-◌, ◌*◌, ◌/◌, ◌%◌, ◌≤◌, ◌<◌, ◌≡◌, refl, List, [], ◌∷◌, Bool, true, false, ◌⊎◌, T, ltb, leb, eqb, length}
use Rattle.std.proofs.Common.{◌∙◌, sym, ap, inl, inr, arith, ltb→lt, leb→le, eqb→eq, eqb-true}
use Rattle.std.proofs.lemmas.Bool.{eqb-false}
use Rattle.base.specs.Pick.{pick, pick-by}
use Rattle.base.specs.Cases.{whether}
use Rattle.base.specs.Table.{both, both_left, both_right}
use Rattle.format.specs.declared.IndexRow.{IndexRow}
use Rattle.format.specs.declared.IndexCode.{IndexCode}
use Rattle.format.specs.declared.Kind.{Kind}
use Rattle.format.specs.declared.Kind.TheVariants.{Fixed, Variable, Group, Genus, Indexed}
use Rattle.format.specs.declared.Opening.{Opening}
use Rattle.format.specs.declared.Opening.TheVariants.{Unknown, Short, Long, LargeVariable, LargeGroup, Version}
use Rattle.format.specs.Alphabet.{char_of}
use Rattle.format.specs.Registry.{indexed_codes, index_chars, index_head, indexed_row, indexed_among, indexed_by}
use Rattle.format.specs.Indexed.{code_of_row, IndexNamed, none, row, is_code_of, named_index_among, named_index, index_code}

infixr 5 ◌&◌
-- ---- the test

selects_fine : IndexRow → Bool
selects_fine c =
    pick (eqb c.chars 1) (both (eqb c.selector 0) (ltb c.letter 52))
    (both (eqb c.chars 2) (pick (eqb c.selector 52) true (pick (eqb c.selector 54) true (eqb c.selector 55))))

is_fine : IndexRow → Bool
is_fine c =
    both (eqb (c.size % 4) 0)
    (both (leb (4 * index_head c) c.size)
    (both (both (leb c.size 160) (leb (index_chars c + 4) c.size))
    (both (ltb c.letter 64)
    (both (ltb c.selector 64)
    (both (both (pick (eqb c.chars 1) true (eqb c.chars 2)) (selects_fine c))
    (both (pick (eqb (index_head c) 1) true (eqb (index_head c) 2))
    (pick (eqb c.zeros 0) (eqb (index_chars c) (4 * index_head c)) (both (eqb c.zeros 4) (eqb (index_chars c + 2) (4 * index_head c))))))))))

-- how code, index and ondex lie in the header: they fill it, or leave two sextets, the first four bits of which are zero
pub data Spread (c : IndexRow) : Type 0 where
  whole : c.zeros ≡ 0 → index_chars c ≡ 4 * index_head c → Spread c
  half : c.zeros ≡ 4 → index_chars c + 2 ≡ 4 * index_head c → Spread c

pub record Facts (c : IndexRow) : Type 0 where
  pub units : c.size % 4 ≡ 0
  pub long : 4 * index_head c ≤ c.size
  pub small : c.size ≤ 160
  pub room : index_chars c + 4 ≤ c.size
  pub letter : c.letter < 64
  pub selector : c.selector < 64
  pub code : (c.chars ≡ 1) ⊎ (c.chars ≡ 2)
  pub head : (index_head c ≡ 1) ⊎ (index_head c ≡ 2)
  pub spread : Spread c
  -- without a selector one letter, else two characters
  pub selects : ((c.chars ≡ 1) × (c.selector ≡ 0) × (c.letter < 52)) ⊎ ((c.chars ≡ 2) × ((c.selector ≡ 52) ⊎ ((c.selector ≡ 54) ⊎ (c.selector ≡ 55))))
  pub found : indexed_by c.selector c.letter ≡ indexed_row c
  pub named : named_index (code_of_row c) ≡ row c

one_of_two : (n : ℕ) → T (pick (eqb n 1) true (eqb n 2)) → (n ≡ 1) ⊎ (n ≡ 2)
one_of_two n = by (eqb n 1) refl
  where
    by : (b : Bool) → eqb n 1 ≡ b → T (pick b true (eqb n 2)) → (n ≡ 1) ⊎ (n ≡ 2)
    by true e t = inl (eqb-true n 1 e)
    by false e t = inr (eqb→eq n 2 t)

spread-by : (c : IndexRow) (b : Bool) → eqb c.zeros 0 ≡ b
    → T (pick b (eqb (index_chars c) (4 * index_head c)) (both (eqb c.zeros 4) (eqb (index_chars c + 2) (4 * index_head c)))) → Spread c
spread-by c true e t = whole (eqb-true c.zeros 0 e) (eqb→eq _ _ t)
spread-by c false e t = half (eqb→eq _ _ (both_left (eqb c.zeros 4) _ t)) (eqb→eq _ _ (both_right (eqb c.zeros 4) _ t))

one_of_three : (n : ℕ) → T (pick (eqb n 52) true (pick (eqb n 54) true (eqb n 55))) → (n ≡ 52) ⊎ ((n ≡ 54) ⊎ (n ≡ 55))
one_of_three n = by (eqb n 52) (eqb n 54) refl refl
  where
    by : (a b : Bool) → eqb n 52 ≡ a → eqb n 54 ≡ b → T (pick a true (pick b true (eqb n 55))) → (n ≡ 52) ⊎ ((n ≡ 54) ⊎ (n ≡ 55))
    by true b ea eb t = inl (eqb-true n 52 ea)
    by false true ea eb t = inr (inl (eqb-true n 54 eb))
    by false false ea eb t = inr (inr (eqb→eq n 55 t))

selects-by : (c : IndexRow) (b : Bool) → eqb c.chars 1 ≡ b
    → T (pick b (both (eqb c.selector 0) (ltb c.letter 52))
    (both (eqb c.chars 2) (pick (eqb c.selector 52) true (pick (eqb c.selector 54) true (eqb c.selector 55)))))
    → ((c.chars ≡ 1) × (c.selector ≡ 0) × (c.letter < 52)) ⊎ ((c.chars ≡ 2) × ((c.selector ≡ 52) ⊎ ((c.selector ≡ 54) ⊎ (c.selector ≡ 55))))
selects-by c true e t =
    inl (eqb-true _ _ e, eqb→eq _ _ (both_left (eqb c.selector 0) _ t), ltb→lt _ _ (both_right (eqb c.selector 0) _ t))
selects-by c false e t =
    inr (eqb→eq _ _ (both_left (eqb c.chars 2) _ t), one_of_three c.selector (both_right (eqb c.chars 2) _ t))

facts : (c : IndexRow) → T (is_fine c) → (indexed_by c.selector c.letter ≡ indexed_row c)
    → named_index (code_of_row c) ≡ row c → Facts c
unfolding is_fine selects_fine
facts c t fd n =
    let a = both_right (eqb (c.size % 4) 0) _ t in
    let b = both_right (leb (4 * index_head c) c.size) _ a in
    let bounds = both_left (both (leb c.size 160) (leb (index_chars c + 4) c.size)) _ b in
    let d = both_right (both (leb c.size 160) (leb (index_chars c + 4) c.size)) _ b in
    let e = both_right (ltb c.letter 64) _ d in
    let g = both_right (ltb c.selector 64) _ e in
    let chars-selects = both_left (both (pick (eqb c.chars 1) true (eqb c.chars 2)) (selects_fine c)) _ g in
    let h = both_right (both (pick (eqb c.chars 1) true (eqb c.chars 2)) (selects_fine c)) _ g in
    record {
      units = eqb→eq _ _ (both_left (eqb (c.size % 4) 0) _ t);
      long = leb→le _ _ (both_left (leb (4 * index_head c) c.size) _ a);
      small = leb→le _ _ (both_left (leb c.size 160) _ bounds);
      room = leb→le _ _ (both_right (leb c.size 160) _ bounds);
      letter = ltb→lt _ _ (both_left (ltb c.letter 64) _ d);
      selector = ltb→lt _ _ (both_left (ltb c.selector 64) _ e);
      code = one_of_two c.chars (both_left (pick (eqb c.chars 1) true (eqb c.chars 2)) _ chars-selects);
      head = one_of_two (index_head c) (both_left (pick (eqb (index_head c) 1) true (eqb (index_head c) 2)) _ h);
      spread = spread-by c (eqb c.zeros 0) refl (both_right (pick (eqb (index_head c) 1) true (eqb (index_head c) 2)) _ h);
      selects = selects-by c (eqb c.chars 1) refl (both_right (pick (eqb c.chars 1) true (eqb c.chars 2)) _ chars-selects);
      found = fd;
      named = n;
    }

-- ---- all rows

data All : List IndexRow → Type 0 where
  end : All []
  ◌&◌ : {c : IndexRow} {cs : List IndexRow} → Facts c → All cs → All (c ∷ cs)

all-rows : All indexed_codes
unfolding indexed_codes is_fine selects_fine index_head indexed_among indexed_by indexed_row named_index named_index_among is_code_of code_of_row char_of
all-rows =
    facts _ tt refl refl & facts _ tt refl refl & facts _ tt refl refl & facts _ tt refl refl
    & facts _ tt refl refl & facts _ tt refl refl & facts _ tt refl refl & facts _ tt refl refl
    & facts _ tt refl refl & facts _ tt refl refl & facts _ tt refl refl & facts _ tt refl refl & end

-- ---- what a search finds

abbrev pub Finds : ℕ → ℕ → Opening → Type 0
Finds a b Unknown = Unit {0}
Finds a b (Short (Fixed c) n) = ⊥
Finds a b (Short (Variable t l m) n) = ⊥
Finds a b (Short (Group l) n) = ⊥
Finds a b (Short Genus n) = ⊥
Finds a b (Short (Indexed c) n) = Facts c × (c.selector ≡ a) × (c.letter ≡ b) × (4 * n ≡ c.size) × (index_head c ≡ 1)
Finds a b (Long (Fixed c) n) = ⊥
Finds a b (Long (Variable t l m) n) = ⊥
Finds a b (Long (Group l) n) = ⊥
Finds a b (Long Genus n) = ⊥
Finds a b (Long (Indexed c) n) = Facts c × (c.selector ≡ a) × (c.letter ≡ b) × (4 * n ≡ c.size) × (index_head c ≡ 2)
Finds a b (LargeVariable t l) = ⊥
Finds a b (LargeGroup l d) = ⊥
Finds a b Version = ⊥

head-two : (c : IndexRow) → Facts c → eqb (index_head c) 1 ≡ false → index_head c ≡ 2
head-two c f e = by f.head
  where
    by : (index_head c ≡ 1) ⊎ (index_head c ≡ 2) → index_head c ≡ 2
    by (inl o) = absurd (eqb-false (index_head c) 1 e o)
    by (inr t) = t

row-finds : (c : IndexRow) (a b : ℕ) → Facts c → c.selector ≡ a → c.letter ≡ b → Finds a b (indexed_row c)
unfolding indexed_row
row-finds c a b f i j =
    pick-by (Finds a b) (eqb (index_head c) 1) _ _ (λ e. (f, i, j, omega (arith, f.units), eqb-true _ _ e))
    (λ e. (f, i, j, omega (arith, f.units), head-two c f e))

among-finds : (cs : List IndexRow) → All cs → (a b : ℕ) → Finds a b (indexed_among cs a b)
unfolding indexed_among
among-finds [] end a b = tt
among-finds (c ∷ cs) (f & r) a b =
    pick-by (Finds a b) (eqb c.selector a) _ _
    (λ e. pick-by (Finds a b) (eqb c.letter b) _ _ (λ g. row-finds c a b f (eqb-true _ _ e) (eqb-true _ _ g)) (λ _. among-finds cs r a b))
    (λ _. among-finds cs r a b)

pub index-finds : (selector letter : ℕ) → Finds selector letter (indexed_by selector letter)
unfolding indexed_by
index-finds = among-finds indexed_codes all-rows

-- a code that a caller names
abbrev pub Names : IndexCode → IndexNamed → Type 0
Names code none = Unit {0}
Names code (row c) = Facts c × (code_of_row c ≡ code)

same_code : (x y : IndexCode) → x.selector ≡ y.selector → x.letter ≡ y.letter → x ≡ y
same_code x y e f =
    ap (λ (s : ℕ). record { selector = s; letter = x.letter }) e ∙ ap (λ (l : ℕ). record { selector = y.selector; letter = l }) f

pair : (c : IndexRow) (code : IndexCode) → is_code_of c code ≡ true → code_of_row c ≡ code
unfolding is_code_of
pair c code = by (eqb code.selector (code_of_row c).selector) refl
  where
    by : (b : Bool) → eqb code.selector (code_of_row c).selector ≡ b
        → pick b (eqb code.letter (code_of_row c).letter) false ≡ true → code_of_row c ≡ code
    by true e t =
        same_code (code_of_row c) code (sym (eqb-true code.selector (code_of_row c).selector e))
        (sym (eqb-true code.letter (code_of_row c).letter t))
    by false e t = let z : ◌≡◌ {A = ℕ} 0 1 = cc in absurd (omega arith)

among-names : (cs : List IndexRow) → All cs → (code : IndexCode) → Names code (named_index_among cs code)
unfolding named_index_among
among-names [] end code = tt
among-names (c ∷ cs) (f & r) code =
    pick-by (Names code) (is_code_of c code) _ _ (λ e. (f, pair c code e)) (λ _. among-names cs r code)

pub index-names : (code : IndexCode) → Names code (named_index code)
unfolding named_index
index-names code = among-names indexed_codes all-rows code
