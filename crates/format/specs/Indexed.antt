-- 02 a, "Add reading and writing of single indexed items, by 01's orders for primitives". Reading: 1, 4 at or past the end, framing by the
-- indexed table ("any other start is 6, for the single reader too", so never 14), judging, then 3 for T, where raw is copied out; in B it is
-- handed back as the part where it lies. Writing: 6, 12, 15, 3. Assumes nothing.
use Rattle.std.specs.Prelude.{ℕ, ◌+◌, ◌-◌, ◌*◌, ◌/◌, ◌^◌, List, [], ◌∷◌, ◌++◌, Bool, true, false, ltb, eqb, length, take, drop, replicate}
use Rattle.base.specs.Pick.{pick}
use Rattle.base.specs.Digits.{digits_of}
use Rattle.format.specs.declared.IndexRow.{IndexRow}
use Rattle.format.specs.declared.Kind.{Kind}
use Rattle.format.specs.declared.Kind.TheVariants.{Fixed, Variable, Group, Genus, Indexed}
use Rattle.format.specs.declared.Framed.{Framed}
use Rattle.format.specs.declared.Framed.TheVariants.{Item, Unframed}
use Rattle.format.specs.declared.IndexCode.{IndexCode}
use Rattle.format.specs.declared.IndexedItem.{IndexedItem}
use Rattle.format.specs.Alphabet.{char_of}
use Rattle.format.specs.Units.{Domain, text, binary}
use Rattle.format.specs.Offsets.{text_offset, binary_offset}
use Rattle.format.specs.Registry.{indexed_codes, index_chars, index_head}
use Rattle.format.specs.Framing.{frame_indexed}
use Rattle.format.specs.Judging.{judge_kind, own_check, ondex_right}
use Rattle.format.specs.Conversion.{to_text}
use Rattle.format.specs.Values.{bytes_in, raw_start, raw_of, index_of, ondex_of}
use Rattle.format.specs.Reading.{Reading, refused, found, judged, from, place_from}
use Rattle.format.specs.Writing.{Writing, written, text_outcome, binary_outcome}
use Rattle.format.specs.Writing as W
use Rattle.std.specs.Prelude.{Ok, Err, Result}
use Rattle.format.specs.declared.Refusal.{Refusal}
use Rattle.format.specs.Refusals.{refused_by}
use Rattle.format.specs.declared.TextOffset.{TextOffset}
use Rattle.format.specs.declared.BinaryOffset.{BinaryOffset}

-- ---- codes

-- a row's code in a caller's words
unfoldable pub code_of_row : IndexRow → IndexCode
code_of_row c = record { selector = pick (eqb c.chars 1) 0 (char_of c.selector); letter = char_of c.letter }

-- ---- reading: what a framed item is, in a caller's words

-- the indexed table opens no other kind
abbrev no_item : IndexedItem
no_item = record { code = record { selector = 0; letter = 0 }; size = 0; start = binary_offset 0; raw = 0; index = 0; ondex = 0 }

-- an item of n units, of its own sextets
unfoldable pub indexed_of : Kind → ℕ → ℕ → List ℕ → IndexedItem
indexed_of (Fixed c) h n s = no_item
indexed_of (Variable t l m) h n s = no_item
indexed_of (Group l) h n s = no_item
indexed_of Genus h n s = no_item
indexed_of (Indexed c) h n s =
    record {
      code = code_of_row c;
      size = n;
      start = binary_offset (raw_start (Indexed c) h);
      raw = 3 * n - raw_start (Indexed c) h;
      index = index_of c s;
      ondex = ondex_of c s;
    }

-- ---- one order for both forms, on the sextets from the item's start to the stream's end; places in sextets

unfoldable pub read_indexed_framed : Framed → List ℕ → Reading
read_indexed_framed (Unframed m p) s = refused m p
read_indexed_framed (Item k h n) s = judged k h n (judge_kind k h (take (4 * n) s) (own_check 0))

-- 4 at the end, framing, judging
unfoldable pub reading_indexed : List ℕ → Reading
reading_indexed s = read_indexed_framed (frame_indexed s) s

-- ---- text: raw is copied out; 3 where there is no room

unfoldable pub text_indexed_answer : ℕ → Reading → List ℕ → ℕ → Result IndexedItem (Refusal TextOffset)
text_indexed_answer at (refused m p) s room = refused_by m (text_offset (place_from 4 at p))
text_indexed_answer at (found k h n) s room =
    pick (ltb room (3 * n - raw_start k h)) (refused_by 3 (text_offset 0)) (Ok (indexed_of k h n (take (4 * n) s)))

unfoldable pub read_indexed_text : List ℕ → ℕ → ℕ → Result IndexedItem (Refusal TextOffset)
read_indexed_text xs at room =
    pick (ltb text.limit (length xs)) (refused_by 1 (text_offset 0))
    (text_indexed_answer at (reading_indexed (text.sextets (from at xs))) (text.sextets (from at xs)) room)

unfoldable pub indexed_raw : Reading → List ℕ → List ℕ
indexed_raw (refused m p) s = []
indexed_raw (found k h n) s = raw_of k h (take (4 * n) s)

-- what a buffer that held d holds afterwards: the raw value from its start
unfoldable pub indexed_left : Result IndexedItem (Refusal TextOffset) → List ℕ → ℕ → List ℕ → List ℕ
indexed_left (Ok p) xs at d = indexed_raw (reading_indexed (text.sextets (from at xs))) (text.sextets (from at xs)) ++ drop p.raw d
indexed_left (Err e) xs at d = d

-- ---- binary: raw is handed back as a part

unfoldable pub binary_indexed_answer : ℕ → Reading → List ℕ → Result IndexedItem (Refusal BinaryOffset)
binary_indexed_answer at (refused m p) s = refused_by m (binary_offset (place_from 3 at p))
binary_indexed_answer at (found k h n) s = Ok (indexed_of k h n (take (4 * n) s))

unfoldable pub read_indexed_binary : List ℕ → ℕ → Result IndexedItem (Refusal BinaryOffset)
read_indexed_binary xs at =
    pick (ltb binary.limit (length xs)) (refused_by 1 (binary_offset 0))
    (binary_indexed_answer at (reading_indexed (binary.sextets (from at xs))) (binary.sextets (from at xs)))

-- the part where the raw value lies, and an empty one where the read is refused
unfoldable pub indexed_part : List ℕ → ℕ → Result IndexedItem (Refusal BinaryOffset) → List ℕ
indexed_part xs at (Ok p) = take p.raw (drop (at + p.start.0) xs)
indexed_part xs at (Err e) = []

-- ---- writing: what is to be written

-- a code that is an indexed item's, or none
pub data IndexNamed : Type 0 where
  none : IndexNamed
  row : IndexRow → IndexNamed

unfoldable pub is_code_of : IndexRow → IndexCode → Bool
is_code_of c code = pick (eqb code.selector (code_of_row c).selector) (eqb code.letter (code_of_row c).letter) false

unfoldable pub named_index_among : List IndexRow → IndexCode → IndexNamed
named_index_among [] code = none
named_index_among (c ∷ cs) code = pick (is_code_of c code) (row c) (named_index_among cs code)

unfoldable pub named_index : IndexCode → IndexNamed
named_index code = named_index_among indexed_codes code

-- the raw bytes that a code holds: what its size leaves behind code, index, ondex and pad bits
unfoldable pub indexed_raw_size : IndexRow → ℕ
indexed_raw_size c = c.size / 4 * 3 - raw_start (Indexed c) (index_head c)

-- 12: raw length unfit for the code; "an index or ondex too large for its digits (without digits, any but 0)"
unfoldable pub fits_indexed : IndexRow → ℕ → ℕ → ℕ → Bool
fits_indexed c index ondex raw =
    pick (eqb raw (indexed_raw_size c)) (pick (ltb index (64 ^ c.index)) (ltb ondex (64 ^ c.ondex)) false) false

-- ---- an item's bytes: what stands before the raw value, then the raw value

-- the sextets of a code's characters
unfoldable pub index_code : IndexRow → List ℕ
index_code c = pick (eqb c.chars 1) (c.letter ∷ []) (c.selector ∷ c.letter ∷ [])

-- code, index and ondex, and zero sextets to whole units
unfoldable pub index_header : IndexRow → ℕ → ℕ → List ℕ
index_header c index ondex =
    index_code c ++ (digits_of 64 c.index index ++ (digits_of 64 c.ondex ondex ++ replicate (4 * index_head c - index_chars c) 0))

-- its bytes up to where the raw value starts
unfoldable pub index_prefix : IndexRow → ℕ → ℕ → List ℕ
index_prefix c index ondex = take (raw_start (Indexed c) (index_head c)) (bytes_in (index_header c index ondex))

unfoldable pub indexed_bytes : IndexNamed → ℕ → ℕ → List ℕ → List ℕ
indexed_bytes none index ondex raw = []
indexed_bytes (row c) index ondex raw = index_prefix c index ondex ++ raw

-- ---- the call: 6, 12, 15, 3

-- u elements to the unit
unfoldable pub writing_indexed : ℕ → IndexNamed → ℕ → ℕ → ℕ → ℕ → Writing
writing_indexed u none index ondex raw room = W.refused 6 0
writing_indexed u (row c) index ondex raw room =
    pick (fits_indexed c index ondex raw)
    (pick (ondex_right c ondex)
    (pick (ltb room (c.size / 4 * u)) (W.refused 3 0)
    (written (c.size / 4)))
    (W.refused 15 0))
    (W.refused 12 0)

unfoldable pub written_indexed : IndexCode → ℕ → ℕ → List ℕ → List ℕ
written_indexed code index ondex raw = indexed_bytes (named_index code) index ondex raw

unfoldable pub write_indexed_text : IndexCode → ℕ → ℕ → List ℕ → ℕ → Result TextOffset (Refusal ℕ)
write_indexed_text code index ondex raw room = text_outcome (writing_indexed 4 (named_index code) index ondex (length raw) room)

unfoldable pub write_indexed_binary : IndexCode → ℕ → ℕ → List ℕ → ℕ → Result BinaryOffset (Refusal ℕ)
write_indexed_binary code index ondex raw room = binary_outcome (writing_indexed 3 (named_index code) index ondex (length raw) room)

-- what a buffer that held d holds afterwards
unfoldable pub text_indexed_left : Result TextOffset (Refusal ℕ) → IndexCode → ℕ → ℕ → List ℕ → List ℕ → List ℕ
text_indexed_left (Ok n) code index ondex raw d = to_text (written_indexed code index ondex raw) ++ drop n.0 d
text_indexed_left (Err e) code index ondex raw d = d

unfoldable pub binary_indexed_left : Result BinaryOffset (Refusal ℕ) → IndexCode → ℕ → ℕ → List ℕ → List ℕ → List ℕ
binary_indexed_left (Ok n) code index ondex raw d = written_indexed code index ondex raw ++ drop n.0 d
binary_indexed_left (Err e) code index ondex raw d = d
