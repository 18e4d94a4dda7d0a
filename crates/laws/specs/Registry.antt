-- The registry's size arithmetic, one test that antt computes over the whole table, and what it says of whatever a first unit
-- opens. Assumes nothing.
use Rattle.std.specs.Prelude.{ℕ, ◌+◌, ◌*◌, ◌%◌, ◌≤◌, ◌<◌, ◌≡◌, refl, List, [], ◌∷◌, Bool, true, false, T, ltb, leb, eqb}
use Rattle.std.proofs.Common.{arith, ltb→lt, leb→le, eqb→eq, ltb-true, eqb-true, eq-eqb, ne_eqb}
use Rattle.std.proofs.lemmas.Bool.{eqb-false}
use Rattle.base.specs.Pick.{pick, pick-by}
use Rattle.base.specs.Table.{both, both_left, both_right}
use Rattle.format.specs.declared.CodeRow.{CodeRow}
use Rattle.format.specs.declared.IndexRow.{IndexRow}
use Rattle.format.specs.declared.Kind.{Kind}
use Rattle.format.specs.declared.Kind.TheVariants.{Fixed, Variable, Group, Genus, Indexed}
use Rattle.format.specs.declared.Opening.{Opening}
use Rattle.format.specs.declared.Opening.TheVariants.{Unknown, Short, Long, LargeVariable, LargeGroup, Version}
use Rattle.format.specs.Registry.{codes, zero_bits_of, prepad_of, is_type, is_group, fixed_among, fixed, opening}
use Rattle.format.specs.Registry.{indexed_codes, index_chars, index_head, indexed_row, indexed_among, indexed_by, indexed_opening}

-- ---- the tests

-- whole units, at least one, at most 39
is_whole : CodeRow → Bool
is_whole c = both (eqb (c.size % 4) 0) (both (ltb 0 c.size) (leb c.size 156))

-- one, two or four characters, with pad 1, 2 or 0
is_code : CodeRow → Bool
is_code c = pick (eqb c.chars 1) (eqb c.pad 1) (pick (eqb c.chars 2) (eqb c.pad 2) (both (eqb c.chars 4) (eqb c.pad 0)))

-- a raw value starts on a whole byte within the item
is_raw : CodeRow → Bool
is_raw c = both (eqb ((6 * c.chars + zero_bits_of c) % 8) 0) (leb (6 * c.chars + zero_bits_of c) (6 * c.size))

-- tag characters fill the item behind the code, but for one prepad at most
is_tag : CodeRow → Bool
is_tag c = both (eqb c.lead 0) (both (eqb (c.chars + prepad_of c + c.tag) c.size) (both (leb (prepad_of c) 1) (both (leb c.tag 11) (leb c.size 12))))

is_filled : CodeRow → Bool
is_filled c = pick (eqb c.tag 0) (is_raw c) (is_tag c)

is_sound : CodeRow → Bool
is_sound c = both (is_whole c) (both (is_code c) (is_filled c))

all_sound : List CodeRow → Bool
all_sound [] = true
all_sound (c ∷ cs) = both (is_sound c) (all_sound cs)

table-sound : T (all_sound codes)
unfolding all_sound is_sound is_whole is_code is_filled is_raw is_tag codes
table-sound = tt

-- ---- what they say

pub record Raw (c : CodeRow) : Type 0 where
  pub bytes : (6 * c.chars + zero_bits_of c) % 8 ≡ 0
  pub inside : 6 * c.chars + zero_bits_of c ≤ 6 * c.size

pub record Tag (c : CodeRow) : Type 0 where
  pub bare : c.lead ≡ 0
  pub filled : c.chars + prepad_of c + c.tag ≡ c.size
  pub prepad : prepad_of c ≤ 1
  pub short : c.tag ≤ 11
  pub units : c.size ≤ 12

-- the three lengths of a code, each with its pad
pub data Code (c : CodeRow) : Type 0 where
  one : c.chars ≡ 1 → c.pad ≡ 1 → Code c
  two : c.chars ≡ 2 → c.pad ≡ 2 → Code c
  four : c.chars ≡ 4 → c.pad ≡ 0 → Code c

pub record Sound (c : CodeRow) : Type 0 where
  pub whole : c.size % 4 ≡ 0
  pub some : 0 < c.size
  pub small : c.size ≤ 156
  pub code : Code c
  pub chars : (0 < c.chars) × (c.chars ≤ 4)
  pub raw : c.tag ≡ 0 → Raw c
  pub tag : (c.tag ≡ 0 → ⊥) → Tag c

raw_of : (c : CodeRow) → T (is_raw c) → Raw c
unfolding is_raw
raw_of c t = record {
  bytes = eqb→eq _ _ (both_left (eqb ((6 * c.chars + zero_bits_of c) % 8) 0) _ t);
  inside = leb→le _ _ (both_right (eqb ((6 * c.chars + zero_bits_of c) % 8) 0) _ t);
}

tag_of : (c : CodeRow) → T (is_tag c) → Tag c
unfolding is_tag
tag_of c t =
    let behind = both_right (eqb c.lead 0) _ t in
    let bounds = both_right (eqb (c.chars + prepad_of c + c.tag) c.size) _ behind in
    let sizes = both_right (leb (prepad_of c) 1) _ bounds in
    record {
      bare = eqb→eq _ _ (both_left (eqb c.lead 0) _ t);
      filled = eqb→eq _ _ (both_left (eqb (c.chars + prepad_of c + c.tag) c.size) _ behind);
      prepad = leb→le _ _ (both_left (leb (prepad_of c) 1) _ bounds);
      short = leb→le _ _ (both_left (leb c.tag 11) _ sizes);
      units = leb→le _ _ (both_right (leb c.tag 11) _ sizes);
    }

-- a test that is a choice between two tests
either {ℓ} : (X : Type ℓ) (a b d : Bool) → (a ≡ true → T b → X) → (a ≡ false → T d → X) → T (pick a b d) → X
either X true b d f g t = f refl t
either X false b d f g t = g refl t

code-of : (c : CodeRow) → T (is_code c) → Code c
unfolding is_code
code-of c =
    either (Code c) (eqb c.chars 1) _ _ (λ e t. one (eqb-true _ _ e) (eqb→eq _ _ t)) (λ _.
    either (Code c) (eqb c.chars 2) _ _ (λ e t. two (eqb-true _ _ e) (eqb→eq _ _ t)) (λ _ t.
    four (eqb→eq _ _ (both_left (eqb c.chars 4) _ t)) (eqb→eq _ _ (both_right (eqb c.chars 4) _ t))))

code-chars : (c : CodeRow) → Code c → (0 < c.chars) × (c.chars ≤ 4)
code-chars c (one e p) = (omega arith, omega arith)
code-chars c (two e p) = (omega arith, omega arith)
code-chars c (four e p) = (omega arith, omega arith)

sound : (c : CodeRow) → T (is_sound c) → Sound c
unfolding is_sound is_whole is_filled
sound c t =
    let whole = both_left (is_whole c) _ t in
    let some = both_right (eqb (c.size % 4) 0) _ whole in
    let code = code-of c (both_left (is_code c) _ (both_right (is_whole c) _ t)) in
    let filled = both_right (is_code c) _ (both_right (is_whole c) _ t) in
    record {
      whole = eqb→eq _ _ (both_left (eqb (c.size % 4) 0) _ whole);
      some = ltb→lt _ _ (both_left (ltb 0 c.size) _ some);
      small = leb→le _ _ (both_right (ltb 0 c.size) _ some);
      code = code;
      chars = code-chars c code;
      raw = λ e. raw_of c (rw (eq-eqb c.tag 0 e) at filled);
      tag = λ e. tag_of c (rw (ne_eqb c.tag 0 e) at filled);
    }

-- ---- the indexed table, by a test of its own

-- a header within the item, whole units, a raw value that starts on a whole byte behind it or within its last unit
is_index_sound : IndexRow → Bool
is_index_sound c =
    both (eqb (c.size % 4) 0)
    (both (leb (4 * index_head c) c.size)
    (both (leb 1 c.chars)
    (both (leb (index_chars c) (4 * index_head c))
    (both (eqb ((6 * index_chars c + c.zeros) % 8) 0) (leb (6 * index_chars c + c.zeros) (6 * c.size))))))

all_index_sound : List IndexRow → Bool
all_index_sound [] = true
all_index_sound (c ∷ cs) = both (is_index_sound c) (all_index_sound cs)

indexed-sound : T (all_index_sound indexed_codes)
unfolding all_index_sound is_index_sound indexed_codes index_head
indexed-sound = tt

pub record IndexSound (c : IndexRow) : Type 0 where
  pub whole : c.size % 4 ≡ 0
  pub long : 4 * index_head c ≤ c.size
  pub coded : 1 ≤ c.chars
  pub chars : index_chars c ≤ 4 * index_head c
  pub bytes : (6 * index_chars c + c.zeros) % 8 ≡ 0
  pub inside : 6 * index_chars c + c.zeros ≤ 6 * c.size

index-sound : (c : IndexRow) → T (is_index_sound c) → IndexSound c
unfolding is_index_sound
index-sound c t =
    let a = both_right (eqb (c.size % 4) 0) _ t in
    let b = both_right (leb (4 * index_head c) c.size) _ a in
    let d = both_right (leb 1 c.chars) _ b in
    let e = both_right (leb (index_chars c) (4 * index_head c)) _ d in
    record {
      whole = eqb→eq _ _ (both_left (eqb (c.size % 4) 0) _ t);
      long = leb→le _ _ (both_left (leb (4 * index_head c) c.size) _ a);
      coded = leb→le _ _ (both_left (leb 1 c.chars) _ b);
      chars = leb→le _ _ (both_left (leb (index_chars c) (4 * index_head c)) _ d);
      bytes = eqb→eq _ _ (both_left (eqb ((6 * index_chars c + c.zeros) % 8) 0) _ e);
      inside = leb→le _ _ (both_right (eqb ((6 * index_chars c + c.zeros) % 8) 0) _ e);
    }

-- ---- what a search finds

-- a sound row of the code that was asked for, with its size in units
abbrev pub Finds : ℕ → ℕ → Opening → Type 0
Finds chars letter Unknown = Unit {0}
Finds chars letter (Short (Fixed c) n) = Sound c × (4 * n ≡ c.size) × (c.chars ≡ chars) × (c.letter ≡ letter)
Finds chars letter (Short (Variable t l m) n) = ⊥
Finds chars letter (Short (Group l) n) = ⊥
Finds chars letter (Short Genus n) = ⊥
Finds chars letter (Short (Indexed c) n) = ⊥
Finds chars letter (Long k n) = ⊥
Finds chars letter (LargeVariable t l) = ⊥
Finds chars letter (LargeGroup l d) = ⊥
Finds chars letter Version = ⊥

among-finds : (cs : List CodeRow) → T (all_sound cs) → (chars letter : ℕ) → Finds chars letter (fixed_among cs chars letter)
unfolding fixed_among all_sound
among-finds [] t chars letter = tt
among-finds (c ∷ cs) t chars letter =
    let s : Sound c = sound c (both_left (is_sound c) (all_sound cs) t) in
    let next = among-finds cs (both_right (is_sound c) (all_sound cs) t) chars letter in
    pick-by (Finds chars letter) (eqb c.chars chars) _ _
    (λ e. pick-by (Finds chars letter) (eqb c.letter letter) _ _
    (λ f. (s, omega (arith, s.whole), eqb-true _ _ e, eqb-true _ _ f)) (λ _. next))
    (λ _. next)

pub fixed-finds : (chars letter : ℕ) → Finds chars letter (fixed chars letter)
unfolding fixed
fixed-finds = among-finds codes table-sound

-- ---- what a first unit opens

abbrev pub Opens : Opening → Type 0
Opens Unknown = Unit {0}
Opens (Short (Fixed c) n) = Sound c × (4 * n ≡ c.size)
Opens (Short (Variable t l m) n) = (n ≡ 1 + m) × (l ≤ 2)
Opens (Short (Group l) n) = 0 < n
Opens (Short Genus n) = ⊥
Opens (Short (Indexed c) n) = IndexSound c × (4 * n ≡ c.size) × (index_head c ≡ 1)
Opens (Long (Fixed c) n) = ⊥
Opens (Long (Variable t l m) n) = ⊥
Opens (Long (Group l) n) = ⊥
Opens (Long Genus n) = ⊥
Opens (Long (Indexed c) n) = IndexSound c × (4 * n ≡ c.size) × (index_head c ≡ 2)
Opens (LargeVariable t l) = l ≤ 2
Opens (LargeGroup l d) = Unit {0}
Opens Version = Unit {0}

finds-opens : (chars letter : ℕ) (o : Opening) → Finds chars letter o → Opens o
finds-opens chars letter Unknown f = tt
finds-opens chars letter (Short (Fixed c) n) f = (f.0, f.1)
finds-opens chars letter (Short (Variable t l m) n) f = absurd f
finds-opens chars letter (Short (Group l) n) f = absurd f
finds-opens chars letter (Short Genus n) f = absurd f
finds-opens chars letter (Short (Indexed c) n) f = absurd f
finds-opens chars letter (Long k n) f = absurd f
finds-opens chars letter (LargeVariable t l) f = absurd f
finds-opens chars letter (LargeGroup l d) f = absurd f
finds-opens chars letter Version f = absurd f

fixed-opens : (chars letter : ℕ) → Opens (fixed chars letter)
fixed-opens chars letter = finds-opens chars letter (fixed chars letter) (fixed-finds chars letter)

-- unknown unless the test passes
tested : (b : Bool) (o : Opening) → Opens o → Opens (pick b o Unknown)
tested b o h = pick-by Opens b o Unknown (λ _. h) (λ _. tt)

pub opening-opens : (a b c d : ℕ) → Opens (opening a b c d)
unfolding opening
opening-opens a b c d =
    pick-by Opens (ltb a 52) _ _ (λ _. fixed-opens 1 a) (λ _.
    pick-by Opens (eqb a 52) _ _ (λ _. fixed-opens 2 b) (λ _.
    pick-by Opens (eqb a 53) _ _ (λ _. tested (eqb b 0) _ (tested (eqb c 0) _ (fixed-opens 4 d))) (λ _.
    pick-by Opens (ltb a 56) _ _ (λ _. tt) (λ _.
    pick-by Opens (ltb a 59) _ _ (λ e. tested (is_type b) _ (refl, omega (arith, ltb-true a 59 e))) (λ _.
    pick-by Opens (ltb a 62) _ _
    (λ e. tested (eqb b 0) _ (tested (eqb c 0) _ (tested (is_type d) _ (omega (arith, ltb-true a 62 e))))) (λ _.
    pick-by Opens (eqb a 62) _ _
    (λ _. pick-by Opens (is_group b) _ _ (λ _. omega arith) (λ _.
    pick-by Opens (eqb b 62) _ _ (λ _. tested (is_group c) _ tt) (λ _. tested (eqb b 63) _ tt)))
    (λ _. tt)))))))

head-two : (c : IndexRow) → eqb (index_head c) 1 ≡ false → index_head c ≡ 2
unfolding index_head
head-two c = pick-by (λ (h : ℕ). eqb h 1 ≡ false → h ≡ 2) (ltb c.selector 54) 1 2 (λ _ e. absurd (eqb-false 1 1 e refl)) (λ _ e. refl)

row_opens : (c : IndexRow) → IndexSound c → Opens (indexed_row c)
unfolding indexed_row
row_opens c s =
    pick-by Opens (eqb (index_head c) 1) _ _ (λ e. (s, omega (arith, s.whole), eqb-true _ _ e))
    (λ e. (s, omega (arith, s.whole), head-two c e))

indexed-among : (cs : List IndexRow) → T (all_index_sound cs) → (selector letter : ℕ) → Opens (indexed_among cs selector letter)
unfolding indexed_among all_index_sound
indexed-among [] t selector letter = tt
indexed-among (c ∷ cs) t selector letter =
    let next = indexed-among cs (both_right (is_index_sound c) (all_index_sound cs) t) selector letter in
    pick-by Opens (eqb c.selector selector) _ _
    (λ _. pick-by Opens (eqb c.letter letter) _ _
    (λ _. row_opens c (index-sound c (both_left (is_index_sound c) (all_index_sound cs) t))) (λ _. next))
    (λ _. next)

indexed-opens-by : (selector letter : ℕ) → Opens (indexed_by selector letter)
unfolding indexed_by
indexed-opens-by = indexed-among indexed_codes indexed-sound

pub indexed-opens : (a b c d : ℕ) → Opens (indexed_opening a b c d)
unfolding indexed_opening
indexed-opens a b c d =
    pick-by Opens (ltb a 52) _ _ (λ _. indexed-opens-by 0 a) (λ _.
    pick-by Opens (eqb a 52) _ _ (λ _. indexed-opens-by 52 b) (λ _.
    pick-by Opens (eqb a 54) _ _ (λ _. indexed-opens-by 54 b) (λ _.
    pick-by Opens (eqb a 55) _ _ (λ _. indexed-opens-by 55 b) (λ _. tt))))

-- a short item is not empty, and it is no genus/version
pub short-some : (k : Kind) (n : ℕ) → Opens (Short k n) → 0 < n
short-some (Fixed c) n o = omega (arith, o.0.some)
short-some (Variable t l m) n o = omega arith
short-some (Group l) n o = o
short-some Genus n o = absurd o
short-some (Indexed c) n o = omega (arith, o.0.long, o.1, o.2)
