-- The sextets that stand before a raw value or a text and then zeros, three units of them, and their bytes; and how an item is divided
-- between them and the value. Assumes nothing.
use Rattle.std.specs.Prelude.{ℕ, ◌+◌, ◌-◌, ◌*◌, ◌/◌, ◌%◌, ◌<◌, ◌≤◌, ◌≡◌, List, [], ◌∷◌, ◌++◌, map, eqb, length, take, replicate}
use Rattle.base.specs.Pick.{pick}
use Rattle.base.specs.Digits.{digits_of}
use Rattle.base.specs.Each.{each}
use Rattle.format.specs.declared.CodeRow.{CodeRow}
use Rattle.format.specs.Alphabet.{sextet_of}
use Rattle.format.specs.Units.{bytes_of}
use Rattle.format.specs.Registry.{prepad_of}
use Rattle.format.specs.Texts.{text_lead, text_count}
use Rattle.format.specs.Values.{bytes_in}
use Rattle.format.specs.Writing as F
use Rattle.writing_raw.specs.Item.{Sized}

-- zeros up to so many
unfoldable pub pad_to : ℕ → List ℕ → List ℕ
pad_to n s = s ++ replicate (n - length s) 0

-- the code's characters and its prepad
unfoldable pub code_head : CodeRow → List ℕ
code_head c = pad_to 12 (F.code_sextets c ++ replicate (prepad_of c) 63)

unfoldable pub row_head : CodeRow → List ℕ → List ℕ
row_head c tag = pad_to 12 (F.code_sextets c ++ (replicate (prepad_of c) 63 ++ map sextet_of tag))

unfoldable pub variable_sextets : ℕ → ℕ → ℕ → ℕ → List ℕ
variable_sextets t h lead n =
    pick (eqb h 1) ((56 + lead) ∷ t ∷ (n / 64) ∷ (n % 64) ∷ []) ((59 + lead) ∷ 0 ∷ 0 ∷ t ∷ digits_of 64 4 n)

unfoldable pub variable_head : ℕ → ℕ → ℕ → ℕ → List ℕ
variable_head t h lead n = pad_to 12 (variable_sextets t h lead n)

unfoldable pub head_sextets : F.Named → List ℕ → ℕ → List ℕ
head_sextets F.Named.unknown tag raw = pad_to 12 []
head_sextets (F.Named.row c) tag raw = row_head c tag
head_sextets (F.Named.variable t h) tag raw = variable_head t h (F.lead_for raw) (F.count_for raw)
head_sextets (F.Named.textual h) tag chars = variable_head 0 h (text_lead chars) (text_count chars)

unfoldable pub head_bytes : F.Named → List ℕ → ℕ → List ℕ
head_bytes n tag raw = each 4 bytes_of 3 (head_sextets n tag raw)

-- ---- an item's parts

-- a header of h units, one or two, and then the units of a text with its fill
pub record TextSized (chars h : ℕ) : Type 0 where
  pub some : 0 < h
  pub header : h ≤ 2
  pub few : h + text_count chars ≤ 1048576

-- the first bytes, and then the raw value
pub record WithRaw (n : F.Named) (tag raw : List ℕ) (k : ℕ) (head : List ℕ) : Type 0 where
  pub size : Sized (length raw) k
  pub bytes : F.item_bytes n tag raw ≡ take (3 * k - length raw) head ++ raw

-- the header, and then the text with its fill
pub record WithText (n : F.Named) (tag chars : List ℕ) (h k : ℕ) (head : List ℕ) : Type 0 where
  pub size : TextSized (length chars) h
  pub units : k ≡ h + text_count (length chars)
  pub bytes : F.item_bytes n tag chars ≡ take (3 * h) head ++ bytes_in (F.filled chars)

abbrev pub Divided : F.Named → List ℕ → List ℕ → ℕ → List ℕ → Type 0
Divided F.Named.unknown tag raw k head = WithRaw F.Named.unknown tag raw k head
Divided (F.Named.row c) tag raw k head = WithRaw (F.Named.row c) tag raw k head
Divided (F.Named.variable t h) tag raw k head = WithRaw (F.Named.variable t h) tag raw k head
Divided (F.Named.textual h) tag chars k head = WithText (F.Named.textual h) tag chars h k head
