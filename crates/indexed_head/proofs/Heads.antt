-- The first bytes are format's, of every row of the table, and the raw value that the row holds ends the item: computed row by row.
-- Assumes nothing.
use Prim.Native.Nat.{ℕ, ◌-◌, ◌*◌, ◌/◌}
use mathlib.Core.Path.{◌≡◌, refl, sym, ap, ◌∙◌}
use mathlib.Core.List.{List, [], ◌∷◌, ◌++◌}
use mathlib.Core.Bool.{Bool, true}
use native.Mathlib.Nat.{div-one}
use native.Mathlib.Omega.{arith}
use borrow.Author.Tests.{eqb-true}
use lib.Dec.{eqb}
use lib.ListN.{length, take, get_or}
use Rattle.base.specs.Pick.{pick-by}
use Rattle.base.specs.Lists.{list3}
use Rattle.base.specs.Each.{each}
use Rattle.format.specs.declared.IndexRow.{IndexRow}
use Rattle.format.specs.declared.IndexCode.{IndexCode}
use Rattle.format.specs.Units.{bytes_of}
use Rattle.format.specs.Registry.{letter_indexed, zero_indexed, two_indexed, three_indexed, indexed_codes, index_head}
use Rattle.format.specs.Judging.{ondex_right}
use Rattle.format.specs.Values.{bytes_in, raw_start}
use Rattle.format.specs.Writing.{Writing}
use Rattle.format.specs.Indexed.{IndexNamed, none, row, is_code_of, named_index_among, named_index, indexed_raw_size, fits_indexed}
use Rattle.format.specs.Indexed.{index_code, index_header, index_prefix, indexed_bytes, writing_indexed}
use Rattle.writing_raw.specs.Item.{Sized, raw_item, room_for}
use Rattle.std.specs.Prelude.{Ok, Err, Result}
use Rattle.format.specs.declared.Refusal.{Refusal}
use Rattle.indexed_code.specs.Plan.{plan_of}
use Rattle.indexed_head.specs.Heads.{first_unit, second_unit, head_bytes}

infixr 5 ◌&◌
-- ---- nine bytes

pub nine : (a b : List ℕ) → length a ≡ 3 → length b ≡ 3
    → get_or a 0 0 ∷ get_or a 1 0 ∷ get_or a 2 0 ∷ get_or b 0 0 ∷ get_or b 1 0 ∷ get_or b 2 0 ∷ 0 ∷ 0 ∷ 0 ∷ [] ≡ a ++ (b ++ (0 ∷ 0 ∷ 0 ∷ []))
nine a b p q = sym (ap (λ (x : List ℕ). x ++ (b ++ (0 ∷ 0 ∷ 0 ∷ []))) (list3 a p) ∙ ap (λ (y : List ℕ). get_or a 0 0 ∷ get_or a 1 0 ∷ get_or a 2 0 ∷ (y ++ (0 ∷ 0 ∷ 0 ∷ []))) (list3 b q))

-- ---- a row of the table

-- its item, whatever index and ondex
pub record Divides (c : IndexRow) : Type 0 where
  pub size : Sized (indexed_raw_size c) (c.size / 4)
  pub bytes : (index ondex : ℕ) → index_prefix c index ondex ≡ take (3 * (c.size / 4) - indexed_raw_size c) (head_bytes c index ondex)

data All : List IndexRow → Type 0 where
  end : All []
  ◌&◌ : {c : IndexRow} {cs : List IndexRow} → Divides c → All cs → All (c ∷ cs)

-- by the shape of its header
abbrev DividesAll : (ℕ → ℕ → IndexRow) → Type 0
DividesAll shape = (letter current : ℕ) → Divides (shape letter current)

letter-divides : DividesAll letter_indexed
unfolding indexed_raw_size raw_start index_head index_prefix bytes_in index_header index_code head_bytes first_unit second_unit each bytes_of
letter-divides l k =
    record { size = record { some = omega arith; few = omega arith; whole = omega arith; start = omega arith }; bytes = λ i o. simp div-one }

zero-divides : DividesAll zero_indexed
unfolding indexed_raw_size raw_start index_head index_prefix bytes_in index_header index_code head_bytes first_unit second_unit each bytes_of
zero-divides l k =
    record { size = record { some = omega arith; few = omega arith; whole = omega arith; start = omega arith }; bytes = λ i o. simp div-one }

two-divides : DividesAll two_indexed
unfolding indexed_raw_size raw_start index_head index_prefix bytes_in index_header index_code head_bytes first_unit second_unit each bytes_of
two-divides l k =
    record { size = record { some = omega arith; few = omega arith; whole = omega arith; start = omega arith }; bytes = λ i o. simp div-one }

three-divides : DividesAll three_indexed
unfolding indexed_raw_size raw_start index_head index_prefix bytes_in index_header index_code head_bytes first_unit second_unit each bytes_of
three-divides l k =
    record { size = record { some = omega arith; few = omega arith; whole = omega arith; start = omega arith }; bytes = λ i o. simp div-one }

all-rows : All indexed_codes
unfolding indexed_codes
all-rows =
    letter-divides _ _ & letter-divides _ _ & letter-divides _ _ & letter-divides _ _ & zero-divides _ _ & zero-divides _ _
    & two-divides _ _ & two-divides _ _ & two-divides _ _ & two-divides _ _ & three-divides _ _ & three-divides _ _ & end

-- ---- what is named

abbrev DividesIn : IndexNamed → Type 0
DividesIn none = Unit {0}
DividesIn (row c) = Divides c

among-divides : (cs : List IndexRow) → All cs → (code : IndexCode) → DividesIn (named_index_among cs code)
unfolding named_index_among
among-divides [] a code = tt
among-divides (c ∷ cs) (d & a) code = pick-by DividesIn (is_code_of c code) _ _ (λ _. d) (λ _. among-divides cs a code)

divides : (code : IndexCode) → DividesIn (named_index code)
unfolding named_index
divides = among-divides indexed_codes all-rows

-- ---- what the plan tells

-- what is left is to ask the room of k units
abbrev Asks : IndexNamed → ℕ → ℕ → ℕ → ℕ → Type 0
Asks n index ondex raw k = (u room : ℕ) → writing_indexed u n index ondex raw room ≡ room_for u k room

-- an item of a row's size and first bytes
pub record Ready (n : IndexNamed) (index ondex : ℕ) (raw : List ℕ) (c : IndexRow) : Type 0 where
  pub answer : Asks n index ondex (length raw) (c.size / 4)
  pub size : Sized (length raw) (c.size / 4)
  pub bytes : indexed_bytes n index ondex raw ≡ raw_item (c.size / 4) (head_bytes c index ondex) raw

abbrev pub Told : IndexNamed → ℕ → ℕ → List ℕ → Result IndexRow (Refusal ℕ) → Type 0
Told n index ondex raw (Err e) = (u room : ℕ) → writing_indexed u n index ondex (length raw) room ≡ Writing.refused e.number e.place
Told n index ondex raw (Ok c) = Ready n index ondex raw c

-- 12 is asked of the raw length first
fit-raw : (c : IndexRow) (index ondex raw : ℕ) → fits_indexed c index ondex raw ≡ true → raw ≡ indexed_raw_size c
unfolding fits_indexed
fit-raw c index ondex raw =
    pick-by (λ (b : Bool). b ≡ true → raw ≡ indexed_raw_size c) (eqb raw (indexed_raw_size c)) _ _ (λ e _. eqb-true _ _ e)
    (λ _ z. absurd (let n : ◌≡◌ {A = ℕ} 0 1 = cc z in omega arith))

row-ready : (c : IndexRow) (index ondex : ℕ) (raw : List ℕ) → Divides c → fits_indexed c index ondex (length raw) ≡ true
    → ondex_right c ondex ≡ true → Ready (row c) index ondex raw c
unfolding writing_indexed indexed_bytes
row-ready c index ondex raw d f o =
    let e = fit-raw c index ondex (length raw) f in
    record {
      answer = λ u room. rw (f, o);
      size = rw e d.size;
      bytes = rw (e, d.bytes index ondex);
    }

told-by : (n : IndexNamed) (index ondex : ℕ) (raw : List ℕ) → DividesIn n → Told n index ondex raw (plan_of n index ondex (length raw))
unfolding plan_of writing_indexed
told-by none index ondex raw d = λ u room. refl
told-by (row c) index ondex raw d =
    pick-by (Told (row c) index ondex raw) (fits_indexed c index ondex (length raw)) _ _
    (λ f. pick-by (Told (row c) index ondex raw) (ondex_right c ondex) _ _ (λ o. row-ready c index ondex raw d f o) (λ o. λ u room. rw (f, o)))
    (λ f. λ u room. rw f)

pub told : (code : IndexCode) (index ondex : ℕ) (raw : List ℕ) (p : Result IndexRow (Refusal ℕ)) → p ≡ plan_of (named_index code) index ondex (length raw)
    → Told (named_index code) index ondex raw p
told code index ondex raw p e = rw e (told-by (named_index code) index ondex raw (divides code))
