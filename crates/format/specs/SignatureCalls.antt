-- 02 a: calls that read and write single indexed items, with what they answer and what the buffer holds afterwards, in the form of the
-- table of 01's calls: a few; crate `format_signatures` has the others. What is expected is 02's word on 003's Indexed Code Table. Text is
-- written by its characters' numbers; a buffer holds nines. Assumes nothing.
use Rattle.std.specs.Prelude.{ℕ, ◌≡◌, refl, List, [], ◌∷◌, ◌++◌, length, replicate}
use Rattle.format.specs.declared.IndexCode.{IndexCode}
use Rattle.format.specs.declared.IndexedItem.{IndexedItem}
use Rattle.format.specs.Offsets.{text_offset, binary_offset}
use Rattle.format.specs.Values.{index_of}
use Rattle.format.specs.Indexed.{code_of_row, indexed_of, read_indexed_framed, reading_indexed, text_indexed_answer, read_indexed_text, indexed_raw}
use Rattle.format.specs.Indexed.{indexed_left, binary_indexed_answer, read_indexed_binary, indexed_part, is_code_of, named_index_among, named_index}
use Rattle.format.specs.Indexed.{indexed_raw_size, fits_indexed, index_code, index_header, index_prefix, indexed_bytes, writing_indexed}
use Rattle.format.specs.Indexed.{written_indexed, write_indexed_text, write_indexed_binary, text_indexed_left, binary_indexed_left}
use Rattle.format.specs.Calls.{answered}
use Rattle.format.specs.Signatures.{filler}
use Rattle.std.specs.Prelude.{Ok, Err, Result}
use Rattle.format.specs.declared.Refusal.{Refusal}
use Rattle.format.specs.Refusals.{refused_by}
use Rattle.format.specs.declared.TextOffset.{TextOffset}
use Rattle.format.specs.declared.BinaryOffset.{BinaryOffset}

infixr 5 ◌&◌
-- ---- calls and what they answer

pub data Call : Type 0 where
  ReadText : List ℕ → ℕ → List ℕ → Call  -- the stream, the offset, the buffer
  ReadBinary : List ℕ → ℕ → Call  -- the stream, the offset
  WriteText WriteBinary : IndexCode → ℕ → ℕ → List ℕ → List ℕ → Call  -- index, ondex, the raw value, the buffer

pub data Outcome : Type 0 where
  refused : ℕ → ℕ → List ℕ → Outcome  -- number, place, the buffer, or in a binary read the part
  written : ℕ → List ℕ → Outcome  -- length, the buffer
  read : IndexedItem → List ℕ → Outcome  -- the buffer
  read_part : IndexedItem → List ℕ → Outcome  -- in B: the part

pub record Asked : Type 0 where
  pub call : Call
  pub gives : Outcome

abbrev pub asked : Call → Outcome → Asked
asked c o = record { call = c; gives = o }

-- selector, 0 where the letter stands alone, and letter
abbrev pub code : ℕ → ℕ → IndexCode
code selector letter = record { selector = selector; letter = letter }

-- its code, full size in units, the raw value's start and length, index and ondex
abbrev pub item : ℕ → ℕ → ℕ → ℕ → ℕ → ℕ → ℕ → IndexedItem
item selector letter size start raw index ondex =
    record { code = code selector letter; size = size; start = binary_offset start; raw = raw; index = index; ondex = ondex }

abbrev pub zeros : ℕ → List ℕ
zeros n = replicate n 0

abbrev pub nines : ℕ → List ℕ
nines n = replicate n 9

-- 001's indexed signature whose pad bits are zero, `ABBgeqntZW3Gu4HL0h3odYz6LaZ_SMfmITL-Btoq_7OZFe3L16jmOe49Ur108wH7mnBaq2E_0U0N0c5vgrJtDpAQ`
abbrev pub signature : List ℕ
signature =
    65 ∷ 66 ∷ 66 ∷ 103 ∷ 101 ∷ 113 ∷ 110 ∷ 116 ∷ 90 ∷ 87 ∷ 51 ∷ 71 ∷ 117 ∷ 52 ∷ 72 ∷ 76 ∷ 48 ∷ 104 ∷ 51 ∷ 111 ∷ 100 ∷ 89 ∷ 122 ∷ 54 ∷
    76 ∷ 97 ∷ 90 ∷ 95 ∷ 83 ∷ 77 ∷ 102 ∷ 109 ∷ 73 ∷ 84 ∷ 76 ∷ 45 ∷ 66 ∷ 116 ∷ 111 ∷ 113 ∷ 95 ∷ 55 ∷ 79 ∷ 90 ∷ 70 ∷ 101 ∷ 51 ∷ 76 ∷
    49 ∷ 54 ∷ 106 ∷ 109 ∷ 79 ∷ 101 ∷ 52 ∷ 57 ∷ 85 ∷ 114 ∷ 49 ∷ 48 ∷ 56 ∷ 119 ∷ 72 ∷ 55 ∷ 109 ∷ 110 ∷ 66 ∷ 97 ∷ 113 ∷ 50 ∷ 69 ∷ 95 ∷
    48 ∷ 85 ∷ 48 ∷ 78 ∷ 48 ∷ 99 ∷ 53 ∷ 118 ∷ 103 ∷ 114 ∷ 74 ∷ 116 ∷ 68 ∷ 112 ∷ 65 ∷ 81 ∷ []

-- its raw value
abbrev pub signature_raw : List ℕ
signature_raw =
    96 ∷ 122 ∷ 169 ∷ 237 ∷ 101 ∷ 109 ∷ 198 ∷ 187 ∷ 129 ∷ 203 ∷ 210 ∷ 29 ∷ 232 ∷ 117 ∷ 140 ∷ 250 ∷ 45 ∷ 166 ∷ 127 ∷ 72 ∷ 199 ∷ 230 ∷
    33 ∷ 50 ∷ 254 ∷ 6 ∷ 218 ∷ 42 ∷ 255 ∷ 179 ∷ 153 ∷ 21 ∷ 237 ∷ 203 ∷ 215 ∷ 168 ∷ 230 ∷ 57 ∷ 238 ∷ 61 ∷ 82 ∷ 189 ∷ 116 ∷ 243 ∷ 1 ∷
    251 ∷ 154 ∷ 112 ∷ 90 ∷ 171 ∷ 97 ∷ 63 ∷ 209 ∷ 77 ∷ 13 ∷ 209 ∷ 206 ∷ 111 ∷ 130 ∷ 178 ∷ 109 ∷ 14 ∷ 144 ∷ 16 ∷ []

-- ---- the table

unfoldable pub signature_calls : List Asked
signature_calls =
    asked (ReadText signature 0 (nines 64)) (read (item 0 65 22 2 64 1 0) signature_raw) ∷  -- 001's, room 64: the exact size
    asked (ReadText (48 ∷ 65 ∷ 66 ∷ 95 ∷ filler 152) 0 (nines 114)) (read (item 48 65 39 3 114 1 63) (zeros 114)) ∷  -- `0AB_A..`, room 114
    asked (ReadText (45 ∷ 65 ∷ 65 ∷ 65 ∷ []) 0 []) (refused 6 0 []) ∷  -- `-AAA`, room 0: a group is 6, and never 14
    asked (ReadBinary (0 ∷ 16 ∷ signature_raw) 0) (read_part (item 0 65 22 2 64 1 0) signature_raw) ∷  -- 001's in B
    asked (WriteText (code 0 65) 1 0 signature_raw (nines 88)) (written 88 signature) ∷  -- 001's indexed signature
    asked (WriteText (code 48 65) 1 63 (zeros 114) (nines 156)) (written 156 (48 ∷ 65 ∷ 66 ∷ 95 ∷ filler 152)) ∷  -- `0AB_A..`
    asked (WriteBinary (code 0 65) 1 0 signature_raw (nines 67)) (written 66 (0 ∷ 16 ∷ (signature_raw ++ nines 1))) ∷  -- 001's in B
    asked (WriteText (code 0 65) 0 1 (zeros 64) []) (refused 12 0 []) ∷  -- `A`, index 0, ondex 1
    asked (WriteText (code 48 66) 0 1 (zeros 114) []) (refused 15 0 []) ∷  -- `0B`, ondex 1
    []

-- ---- what it means

abbrev found_text : Result IndexedItem (Refusal TextOffset) → List ℕ → Outcome
found_text (Ok p) left = read p left
found_text (Err e) left = refused e.number e.place.0 left

abbrev found_binary : Result IndexedItem (Refusal BinaryOffset) → List ℕ → Outcome
found_binary (Ok p) part = read_part p part
found_binary (Err e) part = refused e.number e.place.0 part

abbrev wrote_text : Result TextOffset (Refusal ℕ) → List ℕ → Outcome
wrote_text (Ok n) left = written n.0 left
wrote_text (Err e) left = refused e.number e.place left

abbrev wrote_binary : Result BinaryOffset (Refusal ℕ) → List ℕ → Outcome
wrote_binary (Ok n) left = written n.0 left
wrote_binary (Err e) left = refused e.number e.place left

-- what the definitions answer; to compute it is to open all of them
unfoldable pub told : Call → Outcome
unfolding answered code_of_row indexed_of index_of read_indexed_framed reading_indexed text_indexed_answer read_indexed_text indexed_raw indexed_left
    binary_indexed_answer read_indexed_binary indexed_part is_code_of named_index_among named_index indexed_raw_size fits_indexed index_code index_header
    index_prefix indexed_bytes writing_indexed written_indexed write_indexed_text write_indexed_binary text_indexed_left binary_indexed_left
told (ReadText s at d) = found_text (read_indexed_text s at (length d)) (indexed_left (read_indexed_text s at (length d)) s at d)
told (ReadBinary s at) = found_binary (read_indexed_binary s at) (indexed_part s at (read_indexed_binary s at))
told (WriteText c index ondex raw d) =
    wrote_text (write_indexed_text c index ondex raw (length d))
    (text_indexed_left (write_indexed_text c index ondex raw (length d)) c index ondex raw d)
told (WriteBinary c index ondex raw d) =
    wrote_binary (write_indexed_binary c index ondex raw (length d))
    (binary_indexed_left (write_indexed_binary c index ondex raw (length d)) c index ondex raw d)

-- each call is answered so
pub data Tells : List Asked → Type 0 where
  end : Tells []
  ◌&◌ : {a : Asked} {more : List Asked} → told a.call ≡ a.gives → Tells more → Tells (a ∷ more)

-- ---- the claim

pub signature-calls-hold : Tells signature_calls
unfolding told signature_calls
signature-calls-hold =
    refl & refl & refl & refl & refl & refl & refl & refl & refl & end

-- ---- 1, which no table shows: a stream longer by one, at any offset and with no room

pub signature-limits-hold : ((s : List ℕ) (at : ℕ) → length s ≡ 4194305 → read_indexed_text s at 0 ≡ refused_by 1 (text_offset 0))
    × ((s : List ℕ) (at : ℕ) → length s ≡ 3145729 → read_indexed_binary s at ≡ refused_by 1 (binary_offset 0))
unfolding read_indexed_text read_indexed_binary
signature-limits-hold = (λ s at e. rw e, λ s at e. rw e)
