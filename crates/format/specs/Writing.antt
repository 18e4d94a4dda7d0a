-- 01, "Writing, to T or B: 6 (any code that isn't a primitive's), 12, 5 (tags), 3. Codes other than tags take no tag characters
-- and tags no raw, else 12. For a variable type the caller names small or large, and the lead follows from the raw length; small
-- holds at most 12,285 raw bytes, large 3,145,722." 02 h: 18 "directly after 12". 02 j: 19 where 5 stands. 02 c, of type
-- `A`, whose characters stand where the raw value does: "The writer's order is 6, 12, 5 (place its index in the text), 16 (place 0), 3".
-- The text written is the binary's text. Assumes nothing.
use Rattle.std.specs.Prelude.{ℕ, ◌+◌, ◌-◌, ◌*◌, ◌/◌, ◌%◌, ◌^◌, List, [], ◌∷◌, ◌++◌, map, Bool, true, false, not, ltb, leb, eqb, length, take, drop, replicate}
use Rattle.base.specs.Pick.{pick}
use Rattle.base.specs.Digits.{number_of, digits_of}
use Rattle.base.specs.Each.{each}
use Rattle.format.specs.declared.CodeRow.{CodeRow}
use Rattle.format.specs.declared.Kind.{Kind}
use Rattle.format.specs.declared.Kind.TheVariants.{Fixed, Variable, Group, Genus, Indexed}
use Rattle.format.specs.declared.Opening.{Opening}
use Rattle.format.specs.declared.Opening.TheVariants.{Unknown, Short, Long, LargeVariable, LargeGroup, Version}
use Rattle.format.specs.declared.Code.{Code}
use Rattle.format.specs.declared.Code.TheVariants as C
use Rattle.format.specs.Alphabet.{sextet_of}
use Rattle.format.specs.Units.{bytes_of}
use Rattle.format.specs.Offsets.{text_offset, binary_offset}
use Rattle.format.specs.Registry.{fixed, is_type, is_text, zero_bits_of, prepad_of}
use Rattle.format.specs.Texts.{fills, fill_for, text_lead, text_count}
use Rattle.format.specs.Judging.{is_shortest}
use Rattle.format.specs.Values.{bytes_in, raw_start}
use Rattle.format.specs.Conversion.{to_text, first_stranger, first_number}
use Rattle.std.specs.Prelude.{Ok, Err, Result}
use Rattle.format.specs.declared.Refusal.{Refusal}
use Rattle.format.specs.Refusals.{refused_by}
use Rattle.format.specs.declared.TextOffset.{TextOffset}
use Rattle.format.specs.declared.BinaryOffset.{BinaryOffset}

-- ---- what is to be written

-- a code that is a primitive's
pub data Named : Type 0 where
  unknown : Named
  row : CodeRow → Named
  variable : ℕ → ℕ → Named  -- the type's letter as a sextet, another than `A`; header units
  textual : ℕ → Named  -- type `A`; header units

unfoldable pub named_fixed : Opening → Named
named_fixed Unknown = unknown
named_fixed (Short (Fixed c) n) = row c
named_fixed (Short (Variable t l c) n) = unknown
named_fixed (Short (Group l) n) = unknown
named_fixed (Short Genus n) = unknown
named_fixed (Short (Indexed c) n) = unknown
named_fixed (Long k n) = unknown
named_fixed (LargeVariable t l) = unknown
named_fixed (LargeGroup l d) = unknown
named_fixed Version = unknown

unfoldable pub named_variable : ℕ → ℕ → Named
named_variable t h = pick (is_type t) (pick (is_text t) (textual h) (variable t h)) unknown

unfoldable pub named : Code → Named
named (C.Fixed chars letter) = named_fixed (fixed chars (sextet_of letter))
named (C.Small letter) = named_variable (sextet_of letter) 1
named (C.Large letter) = named_variable (sextet_of letter) 2

-- the raw bytes that a fixed code holds: what its size leaves behind the code, the pad bits and the lead bytes
unfoldable pub raw_size : CodeRow → ℕ
raw_size c = c.size / 4 * 3 - raw_start (Fixed c) 1

-- 12: raw length or tag length unfit for the code
unfoldable pub fits_row : CodeRow → ℕ → ℕ → Bool
fits_row c tags raw = pick (eqb tags c.tag) (eqb raw (raw_size c)) false

-- "small holds at most 12,285 raw bytes, large 3,145,722"
unfoldable pub raw_limit : ℕ → ℕ
raw_limit h = pick (eqb h 1) 12285 3145722

unfoldable pub fits_variable : ℕ → ℕ → ℕ → Bool
fits_variable h tags raw = pick (eqb tags 0) (leb raw (raw_limit h)) false

-- "text with its fill is at most 16,380 characters small and 4,194,296 large"
unfoldable pub text_limit : ℕ → ℕ
text_limit h = pick (eqb h 1) 16380 4194296

unfoldable pub fits_text : ℕ → ℕ → ℕ → Bool
fits_text h tags chars = pick (eqb tags 0) (leb (chars + fill_for chars) (text_limit h)) false

-- "the lead follows from the raw length": value and lead are whole triplets
unfoldable pub lead_for : ℕ → ℕ
lead_for raw = (3 - raw % 3) % 3

unfoldable pub count_for : ℕ → ℕ
count_for raw = (raw + lead_for raw) / 3

-- ---- an item's bytes: what stands before the raw value, then the raw value

-- the sextets of a code's characters: `0` is 52, `1` is 53
unfoldable pub code_sextets : CodeRow → List ℕ
code_sextets c = pick (eqb c.chars 1) (c.letter ∷ []) (pick (eqb c.chars 2) (52 ∷ c.letter ∷ []) (53 ∷ 0 ∷ 0 ∷ c.letter ∷ []))

-- code, pad bits and lead bytes
unfoldable pub raw_prefix : CodeRow → List ℕ
raw_prefix c = digits_of 256 (raw_start (Fixed c) 1) (number_of 64 (code_sextets c) * 2 ^ zero_bits_of c)

-- code, prepad `_` and tag characters
unfoldable pub tag_prefix : CodeRow → List ℕ → List ℕ
tag_prefix c tag = each 4 bytes_of (c.size / 4) (code_sextets c ++ (replicate (prepad_of c) 63 ++ map sextet_of tag))

unfoldable pub row_prefix : CodeRow → List ℕ → List ℕ
row_prefix c tag = pick (eqb c.tag 0) (raw_prefix c) (tag_prefix c tag)

-- selector, type and count, then the lead bytes
unfoldable pub variable_header : ℕ → ℕ → ℕ → ℕ → List ℕ
variable_header t h lead n =
    pick (eqb h 1) (bytes_of ((56 + lead) ∷ t ∷ (n / 64) ∷ (n % 64) ∷ []))
    (bytes_of ((59 + lead) ∷ 0 ∷ 0 ∷ t ∷ []) ++ bytes_of (digits_of 64 4 n))

unfoldable pub variable_prefix : ℕ → ℕ → ℕ → List ℕ
variable_prefix t h raw = variable_header t h (lead_for raw) (count_for raw) ++ replicate (lead_for raw) 0

-- 02 c: "text filled in front with `A` to whole quadlets", as sextets
unfoldable pub filled : List ℕ → List ℕ
filled chars = replicate (fill_for (length chars)) 0 ++ map sextet_of chars

unfoldable pub text_bytes : ℕ → List ℕ → List ℕ
text_bytes h chars = variable_header 0 h (text_lead (length chars)) (text_count (length chars)) ++ bytes_in (filled chars)

unfoldable pub item_bytes : Named → List ℕ → List ℕ → List ℕ
item_bytes unknown tag raw = []
item_bytes (row c) tag raw = row_prefix c tag ++ raw
item_bytes (variable t h) tag raw = variable_prefix t h (length raw) ++ raw
item_bytes (textual h) tag raw = text_bytes h raw

-- full size in units
unfoldable pub units_of : Named → ℕ → ℕ
units_of unknown raw = 0
units_of (row c) raw = c.size / 4
units_of (variable t h) raw = h + count_for raw
units_of (textual h) raw = h + text_count raw

-- ---- the call: 6, 12, 18, 5 or 19, 16, 3

pub data Writing : Type 0 where
  refused : ℕ → ℕ → Writing
  written : ℕ → Writing  -- units

unfoldable pub is_fit : Named → ℕ → ℕ → Bool
is_fit unknown tags raw = false
is_fit (row c) tags raw = fits_row c tags raw
is_fit (variable t h) tags raw = fits_variable h tags raw
is_fit (textual h) tags raw = fits_text h tags raw

unfoldable pub is_named : Named → Bool
is_named unknown = false
is_named (row c) = true
is_named (variable t h) = true
is_named (textual h) = true

-- 18: a large code for a value that the small one holds
unfoldable pub is_short : Named → ℕ → Bool
is_short unknown raw = true
is_short (row c) raw = true
is_short (variable t h) raw = is_shortest h (count_for raw)
is_short (textual h) raw = is_shortest h (text_count raw)

-- 5 or 19: the characters that are asked: a text's own, for every other code the tag's
unfoldable pub chars_of : Named → List ℕ → List ℕ → List ℕ
chars_of unknown tag raw = tag
chars_of (row c) tag raw = tag
chars_of (variable t h) tag raw = tag
chars_of (textual h) tag raw = raw

-- and how many they are: "a number above 11 is 12", so no place behind the eleven is one of them
unfoldable pub chars_for : Named → ℕ → ℕ → ℕ
chars_for unknown tags raw = tags
chars_for (row c) tags raw = tags
chars_for (variable t h) tags raw = tags
chars_for (textual h) tags raw = raw

-- 16: "A text that itself starts with `A`"
unfoldable pub begins_right : Named → List ℕ → Bool
begins_right unknown raw = true
begins_right (row c) raw = true
begins_right (variable t h) raw = true
begins_right (textual h) raw = not (fills 1 (map sextet_of raw))

-- u elements to the unit; "a writer ignores the places behind that number"
unfoldable pub writing : ℕ → Named → List ℕ → ℕ → List ℕ → ℕ → Writing
writing u n tag tags raw room =
    let chars : List ℕ = chars_of n (take tags tag) raw in
    pick (is_named n)
    (pick (is_fit n tags (length raw))
    (pick (is_short n (length raw))
    (pick (ltb (first_stranger chars) (chars_for n tags (length raw))) (refused (first_number chars) (first_stranger chars))
    (pick (begins_right n raw)
    (pick (ltb room (units_of n (length raw) * u)) (refused 3 0)
    (written (units_of n (length raw))))
    (refused 16 0)))
    (refused 18 0))
    (refused 12 0))
    (refused 6 0)

unfoldable pub written_bytes : Code → List ℕ → ℕ → List ℕ → List ℕ
written_bytes code tag tags raw = item_bytes (named code) (take tags tag) raw

unfoldable pub text_outcome : Writing → Result TextOffset (Refusal ℕ)
text_outcome (refused m p) = refused_by m p
text_outcome (written n) = Ok (text_offset (n * 4))

unfoldable pub binary_outcome : Writing → Result BinaryOffset (Refusal ℕ)
binary_outcome (refused m p) = refused_by m p
binary_outcome (written n) = Ok (binary_offset (n * 3))

unfoldable pub write_text : Code → List ℕ → ℕ → List ℕ → ℕ → Result TextOffset (Refusal ℕ)
write_text code tag tags raw room = text_outcome (writing 4 (named code) tag tags raw room)

unfoldable pub write_binary : Code → List ℕ → ℕ → List ℕ → ℕ → Result BinaryOffset (Refusal ℕ)
write_binary code tag tags raw room = binary_outcome (writing 3 (named code) tag tags raw room)

-- what a buffer that held d holds afterwards
unfoldable pub text_item_left : Result TextOffset (Refusal ℕ) → Code → List ℕ → ℕ → List ℕ → List ℕ → List ℕ
text_item_left (Ok n) code tag tags raw d = to_text (written_bytes code tag tags raw) ++ drop n.0 d
text_item_left (Err e) code tag tags raw d = d

unfoldable pub binary_item_left : Result BinaryOffset (Refusal ℕ) → Code → List ℕ → ℕ → List ℕ → List ℕ → List ℕ
binary_item_left (Ok n) code tag tags raw d = written_bytes code tag tags raw ++ drop n.0 d
binary_item_left (Err e) code tag tags raw d = d
