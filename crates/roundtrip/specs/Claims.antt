-- Single primitives there and back, and that a value has one spelling, over the definitions of format. Statements only, a field a sentence,
-- each below what is asked in words (01's and 02's where they say so). `RoundTrip` is proved in Proved. The limits of their sizes are in
-- roundtrip_limits' Claims. Assumes nothing.
use Rattle.std.specs.Prelude.{ℕ, ◌+◌, ◌*◌, ◌≤◌, ◌≡◌, List, [], ◌++◌, length, take, drop}
use Rattle.base.specs.Digits.{Below}
use Rattle.format.specs.declared.Kind.{Kind}
use Rattle.format.specs.declared.Code.{Code}
use Rattle.format.specs.declared.Code.TheVariants as Code
use Rattle.format.specs.declared.Primitive.{Primitive}
use Rattle.format.specs.Units.{text, binary, text_sextets, binary_sextets}
use Rattle.format.specs.Offsets.{text_offset, binary_offset}
use Rattle.format.specs.Conversion.{to_binary, to_text, text_to_binary, binary_to_text}
use Rattle.format.specs.Values.{bytes_in, text_in, value_of, tag_of}
use Rattle.format.specs.Reading.{code_of, tags_of, found, reading, padded, read_text, value_left, read_binary, chars_left, part_at}
use Rattle.format.specs.Writing.{Named, unknown, row, variable, textual, named, written, writing, written_bytes}
use Rattle.format.specs.Writing.{write_text, write_binary, text_item_left, binary_item_left}
use Rattle.std.specs.Prelude.{Ok}

-- ---- words

-- what is given to a writer: a code, places with tag characters and how many of them count, and raw bytes, or for type `A` characters
pub record Given : Type 0 where
  pub code : Code
  pub tag : List ℕ
  pub tags : ℕ
  pub raw : List ℕ
  pub bytes : Below 256 raw

-- 01: "a writer ignores the places behind that number"
abbrev pub tag_given : Given → List ℕ
tag_given g = take g.tags g.tag

-- what of it are a text's characters: all, or none
abbrev pub text_for : Named → List ℕ → List ℕ
text_for unknown raw = []
text_for (row c) raw = []
text_for (variable t h) raw = []
text_for (textual h) raw = raw

abbrev pub text_given : Given → List ℕ
text_given g = text_for (named g.code) g.raw

-- the item's bytes
abbrev pub item_of : Given → List ℕ
item_of g = written_bytes g.code g.tag g.tags g.raw

-- the writer accepts it as n units of u elements
abbrev pub Accepts : ℕ → Given → ℕ → ℕ → Type 0
Accepts u g room n = writing u (named g.code) g.tag g.tags g.raw room ≡ written n

-- the calls do
abbrev pub BinaryAccepts : Given → ℕ → ℕ → Type 0
BinaryAccepts g room n = write_binary g.code g.tag g.tags g.raw room ≡ Ok (binary_offset (n * 3))

abbrev pub TextAccepts : Given → ℕ → ℕ → Type 0
TextAccepts g room n = write_text g.code g.tag g.tags g.raw room ≡ Ok (text_offset (n * 4))

-- what a buffer that held d then holds
abbrev pub binary_buffer : Given → List ℕ → List ℕ
binary_buffer g d = binary_item_left (write_binary g.code g.tag g.tags g.raw (length d)) g.code g.tag g.tags g.raw d

abbrev pub text_buffer : Given → List ℕ → List ℕ
text_buffer g d = text_item_left (write_text g.code g.tag g.tags g.raw (length d)) g.code g.tag g.tags g.raw d

-- a reading of sextets finds it: "code, tag characters, raw value", or 02 c: "Reading and writing such text gives the characters back"
pub record Reads (s : List ℕ) (g : Given) (n : ℕ) : Type 0 where
  pub kind : Kind
  pub head : ℕ
  pub reads : reading s ≡ found kind head n
  pub code-back : code_of kind head ≡ g.code
  pub tag_back : tag_of kind (take (4 * n) s) ≡ tag_given g
  pub raw-back : value_of kind head (take (4 * n) s) ≡ g.raw
  pub text-back : text_in kind head (take (4 * n) s) ≡ text_given g

-- an answer tells it
pub record Tells (p : Primitive) (g : Given) (n : ℕ) : Type 0 where
  pub code-back : p.code ≡ g.code
  pub tags-back : p.tags ≡ g.tags
  pub raw-length : p.raw + p.text ≡ length g.raw
  pub text-length : p.text ≡ length (text_given g)
  pub units : p.size ≡ n

-- a read of a binary at an offset with room finds it. 01: "the raw value is handed back as the part of the binary stream where it
-- lies", "tag characters come by value with their number, unused places 0"; 02 c: "Characters are copied out in both forms"
pub record BinaryReads (xs : List ℕ) (at room : ℕ) (g : Given) (n : ℕ) : Type 0 where
  pub item : Primitive
  pub reads : (read_binary xs at room).found ≡ Ok item
  pub tells : Tells item g n
  pub tag_back : (read_binary xs at room).tag ≡ padded (tag_given g)
  pub part-back : part_at xs at (read_binary xs at room).found ++ text_given g ≡ g.raw
  pub text-back : (d : List ℕ) → chars_left (read_binary xs at room).found xs at d ≡ text_given g ++ drop (length (text_given g)) d

-- a read of a text at an offset with room finds it. 01: "3 for T, where raw is copied out", "bytes behind it stay"
pub record TextReads (xs : List ℕ) (at room : ℕ) (g : Given) (n : ℕ) : Type 0 where
  pub item : Primitive
  pub reads : (read_text xs at room).found ≡ Ok item
  pub tells : Tells item g n
  pub tag_back : (read_text xs at room).tag ≡ padded (tag_given g)
  pub raw-back : (d : List ℕ) → value_left (read_text xs at room).found xs at d ≡ g.raw ++ drop (length g.raw) d

-- a write accepts in either form where there is room for n units, and its bytes are b, the text's too
pub record WritesBack (code : Code) (tag : List ℕ) (tags : ℕ) (raw : List ℕ) (n : ℕ) (b : List ℕ) : Type 0 where
  pub binary-accepts : (room : ℕ) → n * 3 ≤ room → write_binary code tag tags raw room ≡ Ok (binary_offset (n * 3))
  pub text-accepts : (room : ℕ) → n * 4 ≤ room → write_text code tag tags raw room ≡ Ok (text_offset (n * 4))
  pub bytes : written_bytes code tag tags raw ≡ b

-- ---- "what the writer accepts, the reader reads back (code, tag characters, raw value) in the domain it was written in"

pub record WrittenReads : Type 0 where
  -- what is written is whole units of bytes
  pub sizes : (u room n : ℕ) (g : Given) → Accepts u g room n → (length (item_of g) ≡ n * 3) × Below 256 (item_of g)
  -- on its sextets, whatever stands behind the item, whole units or not
  pub binary-sextets : (room n : ℕ) (g : Given) (rest : List ℕ) → Accepts 3 g room n → Reads (binary_sextets (item_of g ++ rest)) g n
  pub text-sextets : (room n : ℕ) (g : Given) (rest : List ℕ) → Accepts 4 g room n → Reads (text_sextets (to_text (item_of g) ++ rest)) g n
  -- by the calls, at any offset of a stream within the limit, whatever stands before and behind the item, as 01's "a second item
  -- goes into the rest of the buffer behind the first"
  pub binary-calls : (room n for-text : ℕ) (g : Given) (front rest : List ℕ) → BinaryAccepts g room n
      → length (front ++ (item_of g ++ rest)) ≤ binary.limit → length (text_given g) ≤ for-text
      → BinaryReads (front ++ (item_of g ++ rest)) (length front) for-text g n
  pub text-calls : (room n for-raw : ℕ) (g : Given) (front rest : List ℕ) → TextAccepts g room n
      → length (front ++ (to_text (item_of g) ++ rest)) ≤ text.limit → length g.raw ≤ for-raw
      → TextReads (front ++ (to_text (item_of g) ++ rest)) (length front) for-raw g n
  -- and in the buffer that was written to. 01: "An accepted call writes its answer from the buffer's start; bytes behind it stay"
  pub binary-buffer : (n for-text : ℕ) (g : Given) (d : List ℕ) → BinaryAccepts g (length d) n → length d ≤ binary.limit
      → length (text_given g) ≤ for-text → BinaryReads (binary_buffer g d) 0 for-text g n
  pub text-buffer : (n for-raw : ℕ) (g : Given) (d : List ℕ) → TextAccepts g (length d) n → length d ≤ text.limit
      → length g.raw ≤ for-raw → TextReads (text_buffer g d) 0 for-raw g n

-- ---- "written text converted as a stream is the written binary, and back"

pub record WrittenConverts : Type 0 where
  pub text-binary : (u room n : ℕ) (g : Given) → Accepts u g room n → to_binary (to_text (item_of g)) ≡ item_of g
  -- neither conversion refuses it where there is room: an item is never longer than a stream may be
  pub text-converts : (u room n for-binary : ℕ) (g : Given) → Accepts u g room n → n * 3 ≤ for-binary
      → text_to_binary (to_text (item_of g)) for-binary ≡ Ok (binary_offset (n * 3))
  pub binary-converts : (u room n for-text : ℕ) (g : Given) → Accepts u g room n → n * 4 ≤ for-text
      → binary_to_text (item_of g) for-text ≡ Ok (text_offset (n * 4))

-- ---- "what the reader accepts, the writer writes back byte for byte (the two agree on every accepted primitive, small or large
-- as it stood)"

pub record ReadWrites : Type 0 where
  -- on the sextets of either form, of at most as many units as a stream may have
  pub sextets : (s : List ℕ) (k : Kind) (h n : ℕ) → reading s ≡ found k h n → n * 4 ≤ text.limit
      → let own = take (4 * n) s in WritesBack (code_of k h) (padded (tag_of k own)) (tags_of k) (value_of k h own) n (bytes_in own)
  -- by the calls: the item's own bytes, d being the buffer that a text was written to
  pub binary-calls : (xs : List ℕ) (at room : ℕ) (p : Primitive) (d : List ℕ) → Below 256 xs
      → (read_binary xs at room).found ≡ Ok p
      → let raw = part_at xs at (Ok p) ++ take p.text (chars_left (Ok p) xs at d) in
      WritesBack p.code (read_binary xs at room).tag p.tags raw p.size (take (p.size * 3) (drop at xs))
  -- its own characters, d being the buffer that the raw value or the text was written to
  pub text-calls : (xs : List ℕ) (at room : ℕ) (p : Primitive) (d : List ℕ) → (read_text xs at room).found ≡ Ok p
      → let raw = take (p.raw + p.text) (value_left (Ok p) xs at d) in
      WritesBack p.code (read_text xs at room).tag p.tags raw p.size (to_binary (take (p.size * 4) (drop at xs)))
      × (to_text (written_bytes p.code (read_text xs at room).tag p.tags raw) ≡ take (p.size * 4) (drop at xs))

-- ---- 02 h: "for accepted primitives equal type and raw value (for type `A`, equal characters) mean equal text, shown once over every
-- variable type". A fixed code is a type by itself, and a tag's value is its characters

-- a code's type: small and large are not told apart
abbrev pub type_of : Code → Code
type_of (Code.Fixed chars letter) = Code.Fixed chars letter
type_of (Code.Small letter) = Code.Small letter
type_of (Code.Large letter) = Code.Small letter

pub record OneSpelling : Type 0 where
  -- on the sextets of either form, of at most as many units as a stream may have
  pub sextets : (s s' : List ℕ) (k k' : Kind) (h h' n n' : ℕ) → reading s ≡ found k h n → reading s' ≡ found k' h' n'
      → n * 4 ≤ text.limit → n' * 4 ≤ text.limit → type_of (code_of k h) ≡ type_of (code_of k' h')
      → let own = take (4 * n) s in let own' = take (4 * n') s' in
      tag_of k own ≡ tag_of k' own' → value_of k h own ≡ value_of k' h' own' → own ≡ own'
  -- by the calls, "equal text": the items' own characters; d and d' are the buffers that the values were written to
  pub text-calls : (xs xs' : List ℕ) (at at' room room' : ℕ) (p p' : Primitive) (d d' : List ℕ)
      → (read_text xs at room).found ≡ Ok p → (read_text xs' at' room').found ≡ Ok p'
      → type_of p.code ≡ type_of p'.code → (read_text xs at room).tag ≡ (read_text xs' at' room').tag
      → take (p.raw + p.text) (value_left (Ok p) xs at d) ≡ take (p'.raw + p'.text) (value_left (Ok p') xs' at' d')
      → take (p.size * 4) (drop at xs) ≡ take (p'.size * 4) (drop at' xs')
  -- and equal binary: their own bytes; d and d' are the buffers that texts were written to
  pub binary-calls : (xs xs' : List ℕ) (at at' room room' : ℕ) (p p' : Primitive) (d d' : List ℕ) → Below 256 xs → Below 256 xs'
      → (read_binary xs at room).found ≡ Ok p → (read_binary xs' at' room').found ≡ Ok p'
      → type_of p.code ≡ type_of p'.code → (read_binary xs at room).tag ≡ (read_binary xs' at' room').tag
      → part_at xs at (Ok p) ≡ part_at xs' at' (Ok p')
      → take p.text (chars_left (Ok p) xs at d) ≡ take p'.text (chars_left (Ok p') xs' at' d')
      → take (p.size * 3) (drop at xs) ≡ take (p'.size * 3) (drop at' xs')

-- ---- 02 c: "Characters are copied out in both forms .. so 01's returned part no longer serves type `A`"

-- an answer's part is empty, at the item's end
abbrev pub EmptyPart : Primitive → Type 0
EmptyPart p = (p.raw ≡ 0) × (p.start ≡ binary_offset (3 * p.size))

pub record TextParts : Type 0 where
  pub binary-none : (xs : List ℕ) (at room : ℕ) (p : Primitive) → (read_binary xs at room).found ≡ Ok p
      → type_of p.code ≡ Code.Small 65 → EmptyPart p × (part_at xs at (Ok p) ≡ [])
  pub text-none : (xs : List ℕ) (at room : ℕ) (p : Primitive) → (read_text xs at room).found ≡ Ok p
      → type_of p.code ≡ Code.Small 65 → EmptyPart p
  -- and no other code has characters: its value is raw, and in B nothing is copied out
  pub binary-others : (xs : List ℕ) (at room : ℕ) (p : Primitive) → (read_binary xs at room).found ≡ Ok p
      → ¬ (type_of p.code ≡ Code.Small 65) → p.text ≡ 0
  pub text-others : (xs : List ℕ) (at room : ℕ) (p : Primitive) → (read_text xs at room).found ≡ Ok p
      → ¬ (type_of p.code ≡ Code.Small 65) → p.text ≡ 0

pub record RoundTrip : Type 0 where
  pub written-reads : WrittenReads
  pub written-converts : WrittenConverts
  pub read-writes : ReadWrites
  pub spelling : OneSpelling
  pub text-parts : TextParts
