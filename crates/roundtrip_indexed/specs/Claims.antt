-- Single indexed items there and back, over the definitions of format: 02 a, "Add reading and writing of single indexed items, by 01's
-- orders for primitives". Statements only, a field a sentence. `IndexedTrip` is proved in Proved. Assumes nothing.
use Rattle.std.specs.Prelude.{ℕ, ◌+◌, ◌*◌, ◌≤◌, ◌≡◌, List, ◌++◌, length, take, drop}
use Rattle.base.specs.Digits.{Below}
use Rattle.format.specs.declared.IndexRow.{IndexRow}
use Rattle.format.specs.declared.IndexCode.{IndexCode}
use Rattle.format.specs.declared.IndexedItem.{IndexedItem}
use Rattle.format.specs.declared.Kind.{Kind}
use Rattle.format.specs.declared.Kind.TheVariants.{Indexed}
use Rattle.format.specs.Units.{text, binary, text_sextets, binary_sextets}
use Rattle.format.specs.Offsets.{text_offset, binary_offset}
use Rattle.format.specs.Conversion.{to_binary, to_text, text_to_binary, binary_to_text}
use Rattle.format.specs.Values.{bytes_in, raw_of, index_of, ondex_of}
use Rattle.format.specs.Reading.{found}
use Rattle.format.specs.Writing.{written}
use Rattle.format.specs.Indexed.{code_of_row, reading_indexed, read_indexed_text, indexed_left, read_indexed_binary, indexed_part, named_index}
use Rattle.format.specs.Indexed.{writing_indexed, written_indexed, write_indexed_text, write_indexed_binary, text_indexed_left, binary_indexed_left}
use Rattle.std.specs.Prelude.{Ok}

-- ---- words

-- what is given to a writer
pub record Given : Type 0 where
  pub code : IndexCode
  pub index : ℕ
  pub ondex : ℕ
  pub raw : List ℕ
  pub bytes : Below 256 raw

-- the item's bytes
abbrev pub item_of : Given → List ℕ
item_of g = written_indexed g.code g.index g.ondex g.raw

-- the writer accepts it as n units of u elements
abbrev pub Accepts : ℕ → Given → ℕ → ℕ → Type 0
Accepts u g room n = writing_indexed u (named_index g.code) g.index g.ondex (length g.raw) room ≡ written n

-- the calls do
abbrev pub BinaryAccepts : Given → ℕ → ℕ → Type 0
BinaryAccepts g room n = write_indexed_binary g.code g.index g.ondex g.raw room ≡ Ok (binary_offset (n * 3))

abbrev pub TextAccepts : Given → ℕ → ℕ → Type 0
TextAccepts g room n = write_indexed_text g.code g.index g.ondex g.raw room ≡ Ok (text_offset (n * 4))

-- what a buffer that held d then holds
abbrev pub binary_buffer : Given → List ℕ → List ℕ
binary_buffer g d =
    binary_indexed_left (write_indexed_binary g.code g.index g.ondex g.raw (length d)) g.code g.index g.ondex g.raw d

abbrev pub text_buffer : Given → List ℕ → List ℕ
text_buffer g d =
    text_indexed_left (write_indexed_text g.code g.index g.ondex g.raw (length d)) g.code g.index g.ondex g.raw d

-- a reading of sextets finds it
pub record Reads (s : List ℕ) (g : Given) (n : ℕ) : Type 0 where
  pub row : IndexRow
  pub head : ℕ
  pub reads : reading_indexed s ≡ found (Indexed row) head n
  pub code-back : code_of_row row ≡ g.code
  pub index_back : index_of row (take (4 * n) s) ≡ g.index
  pub ondex-back : ondex_of row (take (4 * n) s) ≡ g.ondex
  pub raw-back : raw_of (Indexed row) head (take (4 * n) s) ≡ g.raw

-- an answer tells it: code, index, ondex, the raw value's length
pub record Tells (p : IndexedItem) (g : Given) (n : ℕ) : Type 0 where
  pub code-back : p.code ≡ g.code
  pub index_back : p.index ≡ g.index
  pub ondex-back : p.ondex ≡ g.ondex
  pub raw-length : p.raw ≡ length g.raw
  pub units : p.size ≡ n

-- a read of a binary at an offset finds it. 01: "the raw value is handed back as the part of the binary stream where it lies"
pub record BinaryReads (xs : List ℕ) (at : ℕ) (g : Given) (n : ℕ) : Type 0 where
  pub item : IndexedItem
  pub reads : read_indexed_binary xs at ≡ Ok item
  pub tells : Tells item g n
  pub part-back : indexed_part xs at (read_indexed_binary xs at) ≡ g.raw

-- a read of a text at an offset with room finds it. 01: "3 for T, where raw is copied out", "bytes behind it stay"
pub record TextReads (xs : List ℕ) (at room : ℕ) (g : Given) (n : ℕ) : Type 0 where
  pub item : IndexedItem
  pub reads : read_indexed_text xs at room ≡ Ok item
  pub tells : Tells item g n
  pub raw-back : (d : List ℕ) → indexed_left (read_indexed_text xs at room) xs at d ≡ g.raw ++ drop (length g.raw) d

-- a write accepts in either form where there is room for n units, and its bytes are b, the text's too
pub record WritesBack (code : IndexCode) (index ondex : ℕ) (raw : List ℕ) (n : ℕ) (b : List ℕ) : Type 0 where
  pub binary-accepts : (room : ℕ) → n * 3 ≤ room → write_indexed_binary code index ondex raw room ≡ Ok (binary_offset (n * 3))
  pub text-accepts : (room : ℕ) → n * 4 ≤ room → write_indexed_text code index ondex raw room ≡ Ok (text_offset (n * 4))
  pub bytes : written_indexed code index ondex raw ≡ b

-- ---- what the writer accepts, the reader reads back: code, index, ondex and raw value, in the form it was written in

pub record WrittenReads : Type 0 where
  -- what is written is whole units of bytes
  pub sizes : (u room n : ℕ) (g : Given) → Accepts u g room n → (length (item_of g) ≡ n * 3) × Below 256 (item_of g)
  -- on its sextets, whatever stands behind the item, whole units or not
  pub binary-sextets : (room n : ℕ) (g : Given) (rest : List ℕ) → Accepts 3 g room n → Reads (binary_sextets (item_of g ++ rest)) g n
  pub text-sextets : (room n : ℕ) (g : Given) (rest : List ℕ) → Accepts 4 g room n → Reads (text_sextets (to_text (item_of g) ++ rest)) g n
  -- by the calls, at any offset of a stream within the limit, whatever stands before and behind the item
  pub binary-calls : (room n : ℕ) (g : Given) (front rest : List ℕ) → BinaryAccepts g room n
      → length (front ++ (item_of g ++ rest)) ≤ binary.limit → BinaryReads (front ++ (item_of g ++ rest)) (length front) g n
  pub text-calls : (room n for-raw : ℕ) (g : Given) (front rest : List ℕ) → TextAccepts g room n
      → length (front ++ (to_text (item_of g) ++ rest)) ≤ text.limit → length g.raw ≤ for-raw
      → TextReads (front ++ (to_text (item_of g) ++ rest)) (length front) for-raw g n
  -- and in the buffer that was written to. 01: "An accepted call writes its answer from the buffer's start; bytes behind it stay"
  pub binary-buffer : (n : ℕ) (g : Given) (d : List ℕ) → BinaryAccepts g (length d) n → length d ≤ binary.limit
      → BinaryReads (binary_buffer g d) 0 g n
  pub text-buffer : (n for-raw : ℕ) (g : Given) (d : List ℕ) → TextAccepts g (length d) n → length d ≤ text.limit
      → length g.raw ≤ for-raw → TextReads (text_buffer g d) 0 for-raw g n

-- ---- written text converted as a stream is the written binary, and back

pub record WrittenConverts : Type 0 where
  pub text-binary : (u room n : ℕ) (g : Given) → Accepts u g room n → to_binary (to_text (item_of g)) ≡ item_of g
  -- neither conversion refuses it where there is room
  pub text-converts : (u room n for-binary : ℕ) (g : Given) → Accepts u g room n → n * 3 ≤ for-binary
      → text_to_binary (to_text (item_of g)) for-binary ≡ Ok (binary_offset (n * 3))
  pub binary-converts : (u room n for-text : ℕ) (g : Given) → Accepts u g room n → n * 4 ≤ for-text
      → binary_to_text (item_of g) for-text ≡ Ok (text_offset (n * 4))

-- ---- what the reader accepts, the writer writes back byte for byte

pub record ReadWrites : Type 0 where
  -- on the sextets of either form: what is found is an indexed item
  pub sextets : (s : List ℕ) (k : Kind) (h n : ℕ) → reading_indexed s ≡ found k h n
      → let own = take (4 * n) s in
      (c : IndexRow) × (k ≡ Indexed c) × WritesBack (code_of_row c) (index_of c own) (ondex_of c own) (raw_of k h own) n (bytes_in own)
  -- by the calls: the item's own bytes
  pub binary-calls : (xs : List ℕ) (at : ℕ) (p : IndexedItem) → Below 256 xs → read_indexed_binary xs at ≡ Ok p
      → WritesBack p.code p.index p.ondex (indexed_part xs at (Ok p)) p.size (take (p.size * 3) (drop at xs))
  -- its own characters, d being the buffer that the raw value was written to
  pub text-calls : (xs : List ℕ) (at room : ℕ) (p : IndexedItem) (d : List ℕ) → read_indexed_text xs at room ≡ Ok p
      → let raw = take p.raw (indexed_left (Ok p) xs at d) in
      WritesBack p.code p.index p.ondex raw p.size (to_binary (take (p.size * 4) (drop at xs)))
      × (to_text (written_indexed p.code p.index p.ondex raw) ≡ take (p.size * 4) (drop at xs))

-- ---- 01: "So in B the raw value is always whole bytes at the item's end"

pub record AtEnd : Type 0 where
  pub ends : (xs : List ℕ) (at : ℕ) (p : IndexedItem) → read_indexed_binary xs at ≡ Ok p → p.start.0 + p.raw ≡ p.size * 3
  pub part : (xs : List ℕ) (at : ℕ) (p : IndexedItem) → read_indexed_binary xs at ≡ Ok p
      → indexed_part xs at (Ok p) ≡ drop p.start.0 (take (p.size * 3) (drop at xs))
  pub ends-text : (xs : List ℕ) (at room : ℕ) (p : IndexedItem) → read_indexed_text xs at room ≡ Ok p
      → p.start.0 + p.raw ≡ p.size * 3

pub record IndexedTrip : Type 0 where
  pub written-reads : WrittenReads
  pub written-converts : WrittenConverts
  pub read-writes : ReadWrites
  pub at-end : AtEnd
