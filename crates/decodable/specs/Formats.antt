-- Formats as a writer has them: ours, and six that are wrong in one place, those that Claims names. Assumes nothing.
use Rattle.std.specs.Prelude.{ℕ, ◌-◌, ◌*◌, ◌%◌, List, ◌++◌, Bool, true, false, eqb, length, replicate}
use Rattle.base.specs.Pick.{pick}
use Rattle.format.specs.declared.Code.{Code}
use Rattle.format.specs.declared.Code.TheVariants as C
use Rattle.format.specs.Registry.{one_letter}
use Rattle.format.specs.Conversion.{to_text}
use Rattle.format.specs.Writing.{Named, unknown, row, variable, textual, named, raw_size, lead_for, count_for, variable_header, item_bytes, units_of}
use Rattle.format.specs.Writing.{Writing, refused, written, writing}
use Rattle.format.specs.Indexed.{IndexNamed, none, named_index, writing_indexed, indexed_bytes}
use Rattle.format.specs.Indexed as X
use Rattle.roundtrip.specs.Claims.{Given, tag_given}
use Rattle.roundtrip_indexed.specs.Claims as I

-- what is taken where there is room, and its text
pub record Format (G : Type 0) : Type 0 where
  pub takes : G → Bool
  pub text : G → List ℕ

-- ---- of what a format of primitives is made

-- the writer accepts, or refuses with a number that is not asked
abbrev pub goes : (ℕ → Bool) → Writing → Bool
goes unasked (refused m p) = unasked m
goes unasked (written n) = true

-- as many characters as the item has, so that 3 is never given
abbrev pub enough : Named → List ℕ → ℕ
enough n raw = units_of n (length raw) * 4

-- the numbers that are not asked, what a code names, a value as it is taken, and an item's bytes
abbrev pub made : (ℕ → Bool) → (Code → Named) → (Named → List ℕ → List ℕ) → (Named → List ℕ → List ℕ → List ℕ) → Format Given
made unasked name value bytes =
    record {
      takes = λ g.
          let v : List ℕ = value (name g.code) g.raw in
          goes unasked (writing 4 (name g.code) g.tag g.tags v (enough (name g.code) v));
      text = λ g. to_text (bytes (name g.code) (tag_given g) (value (name g.code) g.raw));
    }

-- ---- right: all numbers are asked, a value is taken as it is given

abbrev pub all_asked : ℕ → Bool
all_asked m = false

abbrev pub as_given : Named → List ℕ → List ℕ
as_given n raw = raw

-- ---- wrong

-- a code that begins another: `1`, with two raw bytes as `M`, beside `1AAA` to `1AAP`
abbrev pub named_one : Code → Named
named_one (C.Fixed chars letter) =
    pick (eqb chars 1) (pick (eqb letter 49) (row (one_letter 53 4 0 0)) (named (C.Fixed chars letter))) (named (C.Fixed chars letter))
named_one (C.Small letter) = named (C.Small letter)
named_one (C.Large letter) = named (C.Large letter)

-- type `A` without 16
abbrev pub but_sixteen : ℕ → Bool
but_sixteen m = eqb m 16

-- one selector for all leads: 4, and 7 for a large value
abbrev pub led_alike : Named → List ℕ → List ℕ → List ℕ
led_alike unknown tag raw = item_bytes unknown tag raw
led_alike (row c) tag raw = item_bytes (row c) tag raw
led_alike (variable t h) tag raw = variable_header t h 0 (count_for (length raw)) ++ (replicate (lead_for (length raw)) 0 ++ raw)
led_alike (textual h) tag raw = item_bytes (textual h) tag raw

-- a raw length that is not asked, so that short values are filled
abbrev pub filled_up : Named → List ℕ → List ℕ
filled_up unknown raw = raw
filled_up (row c) raw = replicate (raw_size c - length raw) 0 ++ raw
filled_up (variable t h) raw = raw
filled_up (textual h) raw = raw

-- ---- the formats

unfoldable pub ours : Format Given
ours = made all_asked named as_given item_bytes

unfoldable pub code_begins : Format Given
code_begins = made all_asked named_one as_given item_bytes

unfoldable pub no_sixteen : Format Given
no_sixteen = made but_sixteen named as_given item_bytes

unfoldable pub one_selector : Format Given
one_selector = made all_asked named as_given led_alike

unfoldable pub length_unasked : Format Given
length_unasked = made all_asked named filled_up item_bytes

-- ---- of what a format of indexed items is made: an index and an ondex as they are taken

-- as many characters as the longest of them has
abbrev pub enough_indexed : ℕ
enough_indexed = 160

abbrev pub made_indexed : (ℕ → ℕ) → (IndexNamed → ℕ → ℕ) → Format I.Given
made_indexed index ondex =
    record {
      takes = λ g.
          let o : ℕ = ondex (named_index g.code) g.ondex in
          goes all_asked (writing_indexed 4 (named_index g.code) (index g.index) o (length g.raw) enough_indexed);
      text = λ g. to_text (indexed_bytes (named_index g.code) (index g.index) (ondex (named_index g.code) g.ondex) g.raw);
    }

-- right: each is taken as it is given
abbrev pub whole : ℕ → ℕ
whole index = index

abbrev pub kept : IndexNamed → ℕ → ℕ
kept n ondex = ondex

-- wrong: an ondex that is dropped for a "current only" code
abbrev pub dropped : IndexNamed → ℕ → ℕ
dropped none ondex = ondex
dropped (X.row c) ondex = pick (eqb c.current 0) ondex 0

-- wrong: an index taken modulo 64
abbrev pub modulo : ℕ → ℕ
modulo index = index % 64

unfoldable pub ours_indexed : Format I.Given
ours_indexed = made_indexed whole kept

unfoldable pub ondex_dropped : Format I.Given
ondex_dropped = made_indexed whole dropped

unfoldable pub index_modulo : Format I.Given
index_modulo = made_indexed modulo kept
