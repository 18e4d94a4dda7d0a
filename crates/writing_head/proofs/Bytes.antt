-- The first bytes of an item as the nine hold them: what format sets before a raw value or a text is where they begin, and the value
-- ends the item. Of the rows with a raw value one test that antt computes over the whole table. Assumes nothing.
use mathlib.Core.Path.{◌≡◌, refl, sym, ap, ◌∙◌}
use mathlib.Core.List.{List, [], ◌∷◌, ◌++◌, map}
use mathlib.Core.Bool.{Bool, true, false}
use mathlib.Core.Logic.{◌⊎◌, inl, inr, ⊎_elim}
use Prim.Native.Nat.{ℕ, zero, suc, ◌+◌, ◌-◌, ◌*◌, ◌/◌, ◌<◌, ◌≤◌}
use native.Mathlib.Omega.{arith}
use borrow.Author.Tests.{eq-eqb, ne_eqb, eqb-true, eqb-false}
use lib.Dec.{T, eqb, leb, eqb→eq, leb→le}
use lib.ListN.{length, take, replicate, length-append, length-replicate, length-map}
use lib.Seq.{length-take-le}
use Rattle.base.specs.Pick.{pick, pick-by}
use Rattle.base.specs.Cases.{whether}
use Rattle.base.specs.Table.{both, both_left, both_right}
use Rattle.base.specs.Each.{each, each_take, each_within}
use Rattle.format.specs.declared.CodeRow.{CodeRow}
use Rattle.format.specs.declared.Kind.TheVariants.{Fixed}
use Rattle.format.specs.declared.Code.{Code}
use Rattle.format.specs.declared.Code.TheVariants as C
use Rattle.format.specs.Alphabet.{sextet_of}
use Rattle.format.specs.Units.{bytes_of}
use Rattle.format.specs.Registry.{codes, prepad_of, is_type, is_text, fixed_among, fixed}
use Rattle.format.specs.Texts.{text_lead, text_count}
use Rattle.format.specs.Values.{bytes_in, raw_start}
use Rattle.format.specs.Writing.{Named, named_fixed, named_variable, named, raw_size, lead_for, count_for, code_sextets, raw_prefix, tag_prefix, row_prefix}
use Rattle.format.specs.Writing.{variable_header, variable_prefix, filled, text_bytes, item_bytes, units_of}
use Rattle.format.specs.Writing.Named.{unknown, row, variable, textual}
use Rattle.laws.specs.Registry.{Sound}
use Rattle.laws.specs.Units.{bytes-size}
use Rattle.writing_code.specs.Names.{Able}
use Rattle.writing_raw.specs.Item.{Sized}
use Rattle.writing_head.specs.Heads.{pad_to, row_head, variable_sextets, variable_head, head_sextets, head_bytes, TextSized, Divided}
use Rattle.writing_head.proofs.Heads.{code-length}

-- ---- the first bytes of a row with a raw value

same : List ℕ → List ℕ → Bool
same [] [] = true
same [] (y ∷ ys) = false
same (x ∷ xs) [] = false
same (x ∷ xs) (y ∷ ys) = both (eqb x y) (same xs ys)

same-eq : (xs ys : List ℕ) → T (same xs ys) → xs ≡ ys
unfolding same
same-eq [] [] t = refl
same-eq [] (y ∷ ys) t = absurd t
same-eq (x ∷ xs) [] t = absurd t
same-eq (x ∷ xs) (y ∷ ys) t = rw (eqb→eq x y (both_left (eqb x y) _ t), same-eq xs ys (both_right (eqb x y) _ t))

is_headed : CodeRow → Bool
is_headed c =
    both (leb (raw_start (Fixed c) 1) 9) (pick (eqb c.tag 0) (same (raw_prefix c) (take (raw_start (Fixed c) 1) (each 4 bytes_of 3 (row_head c [])))) true)

all_headed : List CodeRow → Bool
all_headed [] = true
all_headed (c ∷ cs) = both (is_headed c) (all_headed cs)

table-headed : T (all_headed codes)
unfolding all_headed is_headed same raw_prefix raw_start each bytes_of row_head pad_to code_sextets codes
table-headed = tt

abbrev Headed : Named → Type 0
Headed unknown = Unit {0}
Headed (row c) = (raw_start (Fixed c) 1 ≤ 9) × (c.tag ≡ 0 → raw_prefix c ≡ take (raw_start (Fixed c) 1) (each 4 bytes_of 3 (row_head c [])))
Headed (variable t h) = Unit {0}
Headed (textual h) = Unit {0}

headed-row : (c : CodeRow) → T (is_headed c) → Headed (row c)
unfolding is_headed
headed-row c t =
    (leb→le _ _ (both_left (leb (raw_start (Fixed c) 1) 9) _ t), λ e. same-eq _ _ (rw (eq-eqb c.tag 0 e) at (both_right (leb (raw_start (Fixed c) 1) 9) _ t)))

among-headed : (cs : List CodeRow) → T (all_headed cs) → (chars letter : ℕ) → Headed (named_fixed (fixed_among cs chars letter))
unfolding all_headed fixed_among named_fixed
among-headed [] t chars letter = tt
among-headed (c ∷ cs) t chars letter =
    let next = among-headed cs (both_right (is_headed c) (all_headed cs) t) chars letter in
    pick-by (λ o. Headed (named_fixed o)) (eqb c.chars chars) _ _
    (λ _. pick-by (λ o. Headed (named_fixed o)) (eqb c.letter letter) _ _
    (λ _. headed-row c (both_left (is_headed c) (all_headed cs) t)) (λ _. next))
    (λ _. next)

headed-typed : (a b : Bool) (t h : ℕ) → Headed (pick a (pick b (textual h) (variable t h)) unknown)
headed-typed true true t h = tt
headed-typed true false t h = tt
headed-typed false b t h = tt

headed : (code : Code) → Headed (named code)
unfolding named named_variable fixed
headed (C.Fixed chars letter) = among-headed codes table-headed chars (sextet_of letter)
headed (C.Small letter) = headed-typed (is_type (sextet_of letter)) (is_text (sextet_of letter)) (sextet_of letter) 1
headed (C.Large letter) = headed-typed (is_type (sextet_of letter)) (is_text (sextet_of letter)) (sextet_of letter) 2

-- ---- what an item that fits holds

row_inside : (c : CodeRow) → Sound c → raw_start (Fixed c) 1 ≤ c.size / 4 * 3
unfolding raw_start
row_inside c s =
    pick-by (λ (m : ℕ). m ≤ c.size / 4 * 3) (eqb c.tag 0) _ _
    (λ e. let r = s.raw (eqb-true c.tag 0 e) in omega (arith, r.inside, s.whole)) (λ e. omega arith)

-- value and lead are whole triplets
lead-whole : (raw : ℕ) → (raw + lead_for raw ≡ 3 * count_for raw) × (lead_for raw < 3)
unfolding lead_for count_for
lead-whole raw = (omega arith, omega arith)

-- one header unit or two
heads : (h : ℕ) → (h ≡ 1) ⊎ (h ≡ 2) → (0 < h) × (h ≤ 2)
heads h (inl e) = rw e (omega arith, omega arith)
heads h (inr e) = rw e (omega arith, omega arith)

-- an item has a unit
pub some-units : (n : Named) (tags raw : ℕ) → Able n tags raw → 0 < units_of n raw
unfolding Able units_of
some-units unknown tags raw a = absurd a
some-units (row c) tags raw a = omega (arith, a.0.some, a.0.whole)
some-units (variable t h) tags raw a = omega (arith, (heads h a.0).0)
some-units (textual h) tags raw a = omega (arith, (heads h a.0).0)

row_sized : (c : CodeRow) (tags raw : ℕ) → Able (row c) tags raw → Headed (row c) → Sized raw (units_of (row c) raw)
unfolding Able units_of raw_size
row_sized c tags raw a h =
    let i = row_inside c a.0 in
    record {
      some = some-units (row c) tags raw a;
      few = omega (arith, a.0.small);
      whole = omega (arith, a.2);
      start = omega (arith, a.2, h.0);
    }

variable-sized : (t h tags raw : ℕ) → Able (variable t h) tags raw → Sized raw (units_of (variable t h) raw)
unfolding Able units_of
variable-sized t h tags raw a =
    let w = lead-whole raw in
    let g = heads h a.0 in
    record { some = some-units (variable t h) tags raw a; few = omega (arith, a.2); whole = omega arith; start = omega arith }

text-sized : (h tags chars : ℕ) → Able (textual h) tags chars → TextSized chars h
unfolding Able text_count
text-sized h tags chars a =
    let g = heads h a.0 in
    record { some = g.0; header = g.1; few = omega (arith, a.2) }

-- ---- its bytes: the first of those that its sextets make, then the raw value

raw-bytes : (c : CodeRow) (tag : List ℕ) (tags raw : ℕ) → Able (row c) tags raw → Headed (row c) → c.tag ≡ 0
    → row_prefix c (take tags tag) ≡ take (3 * (c.size / 4) - raw) (each 4 bytes_of 3 (row_head c (take tags tag)))
unfolding Able row_prefix raw_size
raw-bytes c tag tags raw a h e =
    let i = row_inside c a.0 in
    let z : 3 * (c.size / 4) - raw ≡ raw_start (Fixed c) 1 = omega (arith, a.2) in
    let t : tags ≡ 0 = omega (arith, a.1) in
    rw (z, t, eq-eqb c.tag 0 e) (h.1 e)

-- the units of a front, of at most three, are the first of those with zeros behind
front_bytes : (x : List ℕ) (k : ℕ) → length x ≡ 4 * k → k ≤ 3 → each 4 bytes_of k x ≡ take (3 * k) (each 4 bytes_of 3 (pad_to 12 x))
unfolding pad_to
front_bytes x k l h =
    let m : k + (3 - k) ≡ 3 = omega arith in
    let z : List ℕ = replicate (12 - length x) 0 in
    sym
    (sym (ap (λ (j : ℕ). take (3 * k) (each 4 bytes_of j (x ++ z))) m) ∙ each_take 4 3 bytes_of bytes-size k (3 - k) (x ++ z)
    ∙ each_within 4 bytes_of k x z (omega arith))

tag-length : (c : CodeRow) (tag : List ℕ) → Sound c → (c.tag ≡ 0 → ⊥) → length tag ≡ c.tag
    → length (code_sextets c ++ (replicate (prepad_of c) 63 ++ map sextet_of tag)) ≡ 4 * (c.size / 4)
tag-length c tag s e l =
    let f = length-replicate {A = ℕ} (prepad_of c) 63 in
    length-append (code_sextets c) _
    ∙ omega (arith, s.whole, (s.tag e).filled, f, l, code-length c s.code, length-append {A = ℕ} (replicate (prepad_of c) 63) (map sextet_of tag), length-map tag sextet_of)

to-tag : (c : CodeRow) (tag : List ℕ) → (c.tag ≡ 0 → ⊥) → row_prefix c tag ≡ tag_prefix c tag
unfolding row_prefix
to-tag c tag e = rw (ne_eqb c.tag 0 e)

no-raw : (c : CodeRow) → (c.tag ≡ 0 → ⊥) → raw_size c ≡ 0
unfolding raw_size raw_start
no-raw c e = rw (ne_eqb c.tag 0 e) (omega arith)

tag-bytes : (c : CodeRow) (tag : List ℕ) (tags raw : ℕ) → length tag ≡ 11 → Able (row c) tags raw → (c.tag ≡ 0 → ⊥)
    → row_prefix c (take tags tag) ≡ take (3 * (c.size / 4) - raw) (each 4 bytes_of 3 (row_head c (take tags tag)))
unfolding Able tag_prefix row_head
tag-bytes c tag tags raw l a e =
    let g = a.0.tag e in
    let z : 3 * (c.size / 4) - raw ≡ 3 * (c.size / 4) = omega (arith, a.2, no-raw c e) in
    let n = tag-length c (take tags tag) a.0 e (length-take-le tags tag (omega (arith, g.short, a.1)) ∙ a.1) in
    to-tag c (take tags tag) e ∙ rw z (front_bytes _ (c.size / 4) n (omega (arith, g.units)))

header-bytes : (t h lead n : ℕ) → lead < 3 → (h ≡ 1) ⊎ (h ≡ 2)
    → variable_header t h lead n ++ replicate lead 0 ≡ take (3 * h + lead) (each 4 bytes_of 3 (pad_to 12 (variable_sextets t h lead n)))
unfolding variable_header variable_sextets pad_to each bytes_of
header-bytes t h zero n l (inl e) = rw e
header-bytes t h (suc zero) n l (inl e) = rw e
header-bytes t h (suc (suc zero)) n l (inl e) = rw e
header-bytes t h zero n l (inr e) = rw e
header-bytes t h (suc zero) n l (inr e) = rw e
header-bytes t h (suc (suc zero)) n l (inr e) = rw e
header-bytes t h (suc (suc (suc k))) n l w = absurd (omega arith)

header-front : (t h lead n : ℕ) → (h ≡ 1) ⊎ (h ≡ 2)
    → variable_header t h lead n ≡ take (3 * h) (each 4 bytes_of 3 (pad_to 12 (variable_sextets t h lead n)))
unfolding variable_header variable_sextets pad_to each bytes_of
header-front t h lead n (inl e) = rw e
header-front t h lead n (inr e) = rw e

module _ (tag raw : List ℕ) (tags : ℕ) where
  abbrev Fits : Named → Type 0
  Fits n = Divided n (take tags tag) raw (units_of n (length raw)) (head_bytes n (take tags tag) (length raw))

  row-divided : (c : CodeRow) → length tag ≡ 11 → Able (row c) tags (length raw) → Headed (row c) → Fits (row c)
  unfolding item_bytes units_of head_bytes head_sextets
  row-divided c l a h = record {
    size = row_sized c tags (length raw) a h;
    bytes = ap (λ (p : List ℕ). p ++ raw)
        (⊎_elim (λ z. raw-bytes c tag tags (length raw) a h (eqb-true c.tag 0 z)) (λ z. tag-bytes c tag tags (length raw) l a (eqb-false c.tag 0 z)) (whether (eqb c.tag 0)));
  }

  variable-divided : (t h : ℕ) → Able (variable t h) tags (length raw) → Fits (variable t h)
  unfolding Able item_bytes units_of head_bytes head_sextets variable_prefix variable_head
  variable-divided t h a =
      let n = length raw in
      let w = lead-whole n in
      let z : 3 * (h + count_for n) - n ≡ 3 * h + lead_for n = omega arith in
      record {
        size = variable-sized t h tags n a;
        bytes = rw z (ap (λ (p : List ℕ). p ++ raw) (header-bytes t h (lead_for n) (count_for n) w.1 a.0));
      }

  text-divided : (h : ℕ) → Able (textual h) tags (length raw) → Fits (textual h)
  unfolding Able item_bytes text_bytes units_of head_bytes head_sextets variable_head
  text-divided h a =
      let n = length raw in
      record {
        size = text-sized h tags n a;
        units = refl;
        bytes = ap (λ (p : List ℕ). p ++ bytes_in (filled raw)) (header-front 0 h (text_lead n) (text_count n) a.0);
      }

  divided-by : (n : Named) → length tag ≡ 11 → Able n tags (length raw) → Headed n → Fits n
  unfolding Able
  divided-by unknown l a h = absurd a
  divided-by (row c) l a h = row-divided c l a h
  divided-by (variable t h) l a _ = variable-divided t h a
  divided-by (textual h) l a _ = text-divided h a

pub divided : (code : Code) (tag : List ℕ) (tags : ℕ) (raw : List ℕ) → length tag ≡ 11 → Able (named code) tags (length raw)
    → Divided (named code) (take tags tag) raw (units_of (named code) (length raw)) (head_bytes (named code) (take tags tag) (length raw))
divided code tag tags raw l a = divided-by tag raw tags (named code) l a (headed code)
