-- 02 a, "Open the signature groups": the deck's rows for the items of `-K` and `-L`, a few; crate
-- `format_signatures` has the others. Text is written by its characters' numbers, with the text behind it, in which `A..` are so many `A` as
-- the item's size asks; what is expected is 02's word on 003's Indexed Code Table. Assumes nothing.
use Rattle.std.specs.Prelude.{ℕ, refl, List, [], ◌∷◌, ◌++◌, replicate}
use Rattle.format.specs.Units.{text, binary}
use Rattle.format.specs.Conversion.{to_binary}
use Rattle.format.specs.Deck.{Example, example, given, Holds}
use Rattle.format.specs.Deck.Expected.{accepted, refused}
use Rattle.format.specs.Deck.Holds.{end, ◌&◌}

-- so many `A`
abbrev pub filler : ℕ → List ℕ
filler n = replicate n 65

unfoldable pub signatures : List Example
signatures =
    example (45 ∷ 76 ∷ 65 ∷ 88 ∷ 50 ∷ 65 ∷ 95 ∷ 95 ∷ 95 ∷ 95 ∷ filler 86) accepted ∷  -- `-LAX2A____A..`
    example (45 ∷ 75 ∷ 65 ∷ 88 ∷ 50 ∷ 66 ∷ 65 ∷ 65 ∷ 65 ∷ 66 ∷ 69 ∷ filler 85) (refused 8 4) ∷  -- `-KAX2BAAABEA..`: 8, then 15
    example (45 ∷ 75 ∷ 65 ∷ 66 ∷ 69 ∷ 65 ∷ 65 ∷ 65 ∷ []) (refused 6 4) ∷  -- `-KABEAAA`: a code of the master table alone
    example (45 ∷ 75 ∷ 65 ∷ 66 ∷ 50 ∷ 65 ∷ 65 ∷ 65 ∷ []) (refused 4 4) ∷  -- `-KAB2AAA`: 4 (second unit)
    []

-- in text and in binary
pub signatures-hold : Holds text (λ s. s) signatures × Holds binary to_binary signatures
unfolding given signatures
signatures-hold = (
  refl & refl & refl & refl & end,
  refl & refl & refl & refl & end,
)
