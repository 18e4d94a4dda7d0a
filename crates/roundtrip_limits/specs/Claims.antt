-- The limits of a single primitive's size, and two orders of judging that no item can show, over the definitions of format. Statements only, a
-- field a sentence, each below what is asked in words (01's and 02's where they say so). `Claims` is proved in Proved. Assumes nothing.
use Rattle.std.specs.Prelude.{ℕ, ◌+◌, ◌*◌, ◌^◌, ◌<◌, ◌≤◌, ◌≡◌, List, true, false, ◌⊎◌, length, get_or, take}
use Rattle.base.specs.Digits.{Below}
use Rattle.format.specs.declared.Code.{Code}
use Rattle.format.specs.declared.Code.TheVariants as Code
use Rattle.format.specs.declared.CodeRow.{CodeRow}
use Rattle.format.specs.Alphabet.{sextet_of, stranger_number}
use Rattle.format.specs.Units.{text, binary, text_sextets}
use Rattle.format.specs.Registry.{is_type, is_text, zero_bits_of, prepad_of}
use Rattle.format.specs.Texts.{fills, fill_for, text_count}
use Rattle.format.specs.Judging.{and_then, unless, has_lead, zero_bits, prepad_right}
use Rattle.format.specs.Writing.{named, refused, written, writing, count_for}

-- ---- 01: "small holds at most 12,285 raw bytes, large 3,145,722"

-- a variable type whose value is raw bytes
abbrev pub RawType : ℕ → Type 0
RawType letter = (is_type (sextet_of letter) ≡ true) × (is_text (sextet_of letter) ≡ false)

-- a variable code with a header of so many units holds at least and at most so many raw bytes: the writer takes these where there is
-- room, gives 12 for more, and for less 18 (02 h), in either form
pub record Holds (code : ℕ → Code) (head least most : ℕ) : Type 0 where
  pub accepts : (u letter room : ℕ) (tag raw : List ℕ) → RawType letter → least ≤ length raw → length raw ≤ most
      → (head + count_for (length raw)) * u ≤ room → writing u (named (code letter)) tag 0 raw room ≡ written (head + count_for (length raw))
  pub refuses : (u letter room : ℕ) (tag raw : List ℕ) → RawType letter → most < length raw
      → writing u (named (code letter)) tag 0 raw room ≡ refused 12 0
  pub too_few : (u letter room : ℕ) (tag raw : List ℕ) → RawType letter → length raw < least
      → writing u (named (code letter)) tag 0 raw room ≡ refused 18 0

-- a text of type `A` with its fill has so many characters, at least and at most
pub record Filled (least most : ℕ) (chars : List ℕ) : Type 0 where
  pub enough : least ≤ length chars + fill_for (length chars)
  pub few : length chars + fill_for (length chars) ≤ most

-- 02 c: "text with its fill is at most 16,380 characters small and 4,194,296 large", and at least so many (02 h)
pub record HoldsText (code : Code) (head least most : ℕ) : Type 0 where
  -- such a text is taken where there is room, in the alphabet and not starting with `A`
  pub accepts : (u room : ℕ) (tag chars : List ℕ) → Filled least most chars → Below 64 (text_sextets chars)
      → fills 1 (text_sextets chars) ≡ false → (head + text_count (length chars)) * u ≤ room
      → writing u (named code) tag 0 chars room ≡ written (head + text_count (length chars))
  -- "5 (place its index in the text)", whatever the room: the first character outside the alphabet, by 02 j 19 for one of three
  pub stranger : (u room : ℕ) (tag chars : List ℕ) (i : ℕ) → Filled least most chars → i < length chars
      → Below 64 (text_sextets (take i chars)) → 64 ≤ sextet_of (get_or chars i 0)
      → writing u (named code) tag 0 chars room ≡ refused (stranger_number (sextet_of (get_or chars i 0))) i
  -- "16 (place 0)", whatever the room: "A text that itself starts with `A`"
  pub from-a : (u room : ℕ) (tag chars : List ℕ) → Filled least most chars → Below 64 (text_sextets chars)
      → fills 1 (text_sextets chars) ≡ true → writing u (named code) tag 0 chars room ≡ refused 16 0
  pub refuses : (u room : ℕ) (tag chars : List ℕ) → most < length chars + fill_for (length chars)
      → writing u (named code) tag 0 chars room ≡ refused 12 0
  pub too_few : (u room : ℕ) (tag chars : List ℕ) → length chars + fill_for (length chars) < least
      → writing u (named code) tag 0 chars room ≡ refused 18 0

pub record Limits : Type 0 where
  pub small : Holds Code.Small 1 0 12285
  pub large : Holds Code.Large 2 12286 3145722
  pub small-chars : HoldsText (Code.Small 65) 1 0 16380
  pub large-chars : HoldsText (Code.Large 65) 2 16381 4194296
  -- where the numbers come from: a small one is held exactly if two digits count its triplets, or quadlets, a large one exactly if its
  -- item is no longer than a stream may be, in text and in binary
  pub small-digits : (raw : ℕ) → raw ≤ 12285 → count_for raw < 64 ^ 2
  pub small-most : (raw : ℕ) → count_for raw < 64 ^ 2 → raw ≤ 12285
  pub large-fits : (raw : ℕ) → raw ≤ 3145722 → ((2 + count_for raw) * 4 ≤ text.limit) × ((2 + count_for raw) * 3 ≤ binary.limit)
  pub large-text : (raw : ℕ) → (2 + count_for raw) * 4 ≤ text.limit → raw ≤ 3145722
  pub large-binary : (raw : ℕ) → (2 + count_for raw) * 3 ≤ binary.limit → raw ≤ 3145722
  pub small-chars-digits : (chars : ℕ) → chars + fill_for chars ≤ 16380 → text_count chars < 64 ^ 2
  pub small-chars-most : (chars : ℕ) → text_count chars < 64 ^ 2 → chars + fill_for chars ≤ 16380
  pub large-chars-fit : (chars : ℕ) → chars + fill_for chars ≤ 4194296
      → ((2 + text_count chars) * 4 ≤ text.limit) × ((2 + text_count chars) * 3 ≤ binary.limit)
  pub large-chars-text : (chars : ℕ) → (2 + text_count chars) * 4 ≤ text.limit → chars + fill_for chars ≤ 4194296
  pub large-chars-binary : (chars : ℕ) → (2 + text_count chars) * 3 ≤ binary.limit → chars + fill_for chars ≤ 4194296

-- ---- 01: "Judging a framed primitive: 5 behind the header, 9, 8, 10": two of these orders no item can show

pub record Orders : Type 0 where
  -- no fixed code has both zero bits and a prepad, so 10 before 8 would give the same
  pub zeros-or-prepad : (c : CodeRow) → (zero_bits_of c ≡ 0) ⊎ (prepad_of c ≡ 0)
  pub eight-ten : (c : CodeRow) (i : ℕ) (s : List ℕ) → Below 64 s
      → let eight = unless 8 (zero_bits s i (zero_bits_of c)) in let ten = unless 10 (prepad_right s i (prepad_of c)) in
      and_then eight ten ≡ and_then ten eight
  -- an item with n = 0 ends behind its header and has no lead byte that could be set, so 8 before 9 would give the same
  pub nine-eight : (h lead count : ℕ) (s : List ℕ) → length s ≡ 4 * (h + count)
      → let nine = unless 9 (has_lead lead count) in let eight = unless 8 (zero_bits s (4 * h) (8 * lead)) in
      and_then nine eight ≡ and_then eight nine

-- ---- all of it

pub record Claims : Type 0 where
  pub limits : Limits
  pub orders : Orders
