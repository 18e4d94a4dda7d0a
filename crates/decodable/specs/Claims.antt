-- 02 l, "No two card decks alike", over the definitions of format as 02 c, h and a amend them. Statements only, a field a sentence, each
-- below 02's words. `NoTwoAlike` is proved in Proved. Assumes nothing.
use Rattle.std.specs.Prelude.{ℕ, ◌≡◌, List}
use Rattle.format.specs.Offsets.{text_offset, binary_offset}
use Rattle.format.specs.Writing.{write_text, write_binary}
use Rattle.format.specs.Indexed.{write_indexed_text, write_indexed_binary}
use Rattle.roundtrip.specs.Claims.{Given, tag_given, text_buffer, binary_buffer}
use Rattle.roundtrip_indexed.specs.Claims as I
use Rattle.decodable.specs.Words.{UniquelyDecodable, PrefixFree, Accepted, written_by}
use Rattle.std.specs.Prelude.{Ok}

-- ---- primitives that the writer accepts, in either form, and what it then writes

abbrev pub TextAnswers : Given → ℕ → ℕ → Type 0
TextAnswers g room size = write_text g.code g.tag g.tags g.raw room ≡ Ok (text_offset size)

abbrev pub BinaryAnswers : Given → ℕ → ℕ → Type 0
BinaryAnswers g room size = write_binary g.code g.tag g.tags g.raw room ≡ Ok (binary_offset size)

abbrev pub text_of : Accepted TextAnswers → List ℕ
text_of = written_by text_buffer

abbrev pub binary_of : Accepted BinaryAnswers → List ℕ
binary_of = written_by binary_buffer

-- "code, tag characters and raw value (type `A`: characters)". The code tells small from large. All that a caller gives is the same but
-- the places behind the tag characters, of which 01 says "a writer ignores the places behind that number"
pub record Same (g h : Given) : Type 0 where
  pub code : g.code ≡ h.code
  pub tags : g.tags ≡ h.tags
  pub tag : tag_given g ≡ tag_given h
  pub value : g.raw ≡ h.raw

-- ---- indexed items

abbrev pub IndexedTextAnswers : I.Given → ℕ → ℕ → Type 0
IndexedTextAnswers g room size = write_indexed_text g.code g.index g.ondex g.raw room ≡ Ok (text_offset size)

abbrev pub IndexedBinaryAnswers : I.Given → ℕ → ℕ → Type 0
IndexedBinaryAnswers g room size = write_indexed_binary g.code g.index g.ondex g.raw room ≡ Ok (binary_offset size)

abbrev pub indexed_text_of : Accepted IndexedTextAnswers → List ℕ
indexed_text_of = written_by I.text_buffer

abbrev pub indexed_binary_of : Accepted IndexedBinaryAnswers → List ℕ
indexed_binary_of = written_by I.binary_buffer

-- "indexed items: index and ondex too": all that a caller gives
pub record SameIndexed (g h : I.Given) : Type 0 where
  pub code : g.code ≡ h.code
  pub index : g.index ≡ h.index
  pub ondex : g.ondex ≡ h.ondex
  pub raw : g.raw ≡ h.raw

-- ---- 02 l

pub record NoTwoAlike : Type 0 where
  -- "For any two lists of primitives that the writer accepts in turn, equal concatenated text means equal lists, code, tag characters and
  -- raw value (type `A`: characters; ..) item by item." Formats that would break it (Examples.wrong-formats shows that each does):
  -- type `A` without 16: `A-a-personal` and `-a-personal` are both `4AADA-a-personal`;
  -- one selector for all leads: raw 61 and raw 00 00 61 of type `B` are both `4BABAABh`;
  -- a raw length that is not asked, so that short values are filled: raw 61 and raw 00 61 of `M` are both `MABh`
  pub text : UniquelyDecodable text_of (λ a b. Same a.given b.given)
  -- "No accepted primitive is the beginning of another one." A format that would break it: one with a code that begins another, as a code
  -- `1` beside `1AAF`, whose item `1AAF` with raw 00 05 begins the tag `1AAFMAAA`
  pub text-beginning : PrefixFree text_of (λ a b. Same a.given b.given)
  -- "The same in binary."
  pub binary : UniquelyDecodable binary_of (λ a b. Same a.given b.given)
  pub binary-beginning : PrefixFree binary_of (λ a b. Same a.given b.given)
  -- "(.. indexed items: index and ondex too) .. with indexed items compared only with indexed ones". Formats that would break it:
  -- an ondex that is dropped for a "current only" code: ondex 0 and 5 of `2B` with index 1 are both `2BABAA` and the raw value;
  -- an index taken modulo 64: index 1 and 65 of `A` are both `AB` and the raw value
  pub indexed-text : UniquelyDecodable indexed_text_of (λ a b. SameIndexed a.given b.given)
  pub indexed-text-beginning : PrefixFree indexed_text_of (λ a b. SameIndexed a.given b.given)
  pub indexed-binary : UniquelyDecodable indexed_binary_of (λ a b. SameIndexed a.given b.given)
  pub indexed-binary-beginning : PrefixFree indexed_binary_of (λ a b. SameIndexed a.given b.given)
