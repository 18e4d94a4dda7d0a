-- 01, "The deck we check by": "Starred ones are proved over the definitions as one table under a single claim." Text is written
-- by its characters' numbers, with the paper's own line behind it; what is expected is the paper's. Assumes nothing.
use Rattle.std.specs.Prelude.{refl, List, [], ◌∷◌}
use Rattle.format.specs.Units.{text, binary}
use Rattle.format.specs.Conversion.{to_binary}
use Rattle.format.specs.Deck.{Example, example, around, given, Holds}
use Rattle.format.specs.Deck.Expected.{accepted, raw, tag, spells, in_binary, refused, unframed}
use Rattle.format.specs.Deck.Holds.{end, ◌&◌}

-- ---- the deck, with the errors seen shipped

unfoldable pub deck : List Example
deck =
    example (77 ∷ 65 ∷ 65 ∷ 66 ∷ []) (raw (0 ∷ 1 ∷ [])) ∷  -- `MAAB`* raw 00 01
    example (77 ∷ 80 ∷ 95 ∷ 95 ∷ []) (raw (255 ∷ 255 ∷ [])) ∷  -- `MP__`* raw FF FF
    example (77 ∷ 81 ∷ 65 ∷ 65 ∷ []) (refused 8 0) ∷  -- `MQAA`* 8
    example (48 ∷ 72 ∷ 68 ∷ 95 ∷ 95 ∷ 95 ∷ 95 ∷ 95 ∷ []) accepted ∷  -- `0HD_____`* accepted
    example (48 ∷ 72 ∷ 69 ∷ 65 ∷ 65 ∷ 65 ∷ 65 ∷ 65 ∷ []) (refused 8 0) ∷  -- `0HEAAAAA`* 8
    example (86 ∷ 65 ∷ 66 ∷ 104 ∷ []) (raw (97 ∷ [])) ∷  -- `VABh`* raw 61
    example (87 ∷ 71 ∷ 104 ∷ 112 ∷ []) (raw (104 ∷ 105 ∷ [])) ∷  -- `WGhp` raw 68 69
    example (49 ∷ 65 ∷ 65 ∷ 77 ∷ []) (in_binary (212 ∷ 0 ∷ 12 ∷ [])) ∷  -- `1AAM` in B is D4 00 0C*
    example (52 ∷ 66 ∷ 65 ∷ 65 ∷ []) (raw []) ∷  -- `4BAA` empty raw*
    example (53 ∷ 66 ∷ 65 ∷ 65 ∷ []) (refused 9 0) ∷  -- `5BAA` 9*
    example (53 ∷ 66 ∷ 65 ∷ 66 ∷ 65 ∷ 71 ∷ 104 ∷ 112 ∷ []) (raw (104 ∷ 105 ∷ [])) ∷  -- `5BABAGhp` raw 68 69
    example (54 ∷ 66 ∷ 65 ∷ 66 ∷ 65 ∷ 65 ∷ 66 ∷ 104 ∷ []) (raw (97 ∷ [])) ∷  -- `6BABAABh` raw 61
    example (53 ∷ 66 ∷ 65 ∷ 66 ∷ 65 ∷ 80 ∷ 65 ∷ 65 ∷ []) accepted ∷  -- `5BABAPAA` accepted
    example (53 ∷ 66 ∷ 65 ∷ 66 ∷ 65 ∷ 81 ∷ 65 ∷ 65 ∷ []) (refused 8 0) ∷  -- `5BABAQAA` 8*
    example (48 ∷ 74 ∷ 95 ∷ 65 ∷ []) (tag (65 ∷ [])) ∷  -- `0J_A` tag `A`
    example (48 ∷ 74 ∷ 65 ∷ 65 ∷ []) (refused 10 0) ∷  -- `0JAA` 10*
    example (45 ∷ 48 ∷ 65 ∷ 65 ∷ []) (unframed 6 0) ∷  -- `-0AA` 6
    example (45 ∷ 65 ∷ 65 ∷ 65 ∷ []) accepted ∷  -- `-AAA` accepted
    example (45 ∷ 65 ∷ 65 ∷ 66 ∷ 77 ∷ 65 ∷ 65 ∷ 66 ∷ []) accepted ∷  -- `-AABMAAB` accepted
    example (45 ∷ 65 ∷ 65 ∷ 67 ∷ 77 ∷ 65 ∷ 65 ∷ 66 ∷ []) (unframed 4 0) ∷  -- `-AACMAAB` remainder 4 at 0*
    example (45 ∷ 65 ∷ 65 ∷ 67 ∷ 45 ∷ 95 ∷ 65 ∷ 65 ∷ 65 ∷ 66 ∷ 65 ∷ 65 ∷ []) (refused 7 4) ∷  -- `-AAC-_AAABAA` 7 at 4*
    example (45 ∷ 74 ∷ 65 ∷ 67 ∷ 45 ∷ 95 ∷ 65 ∷ 65 ∷ 65 ∷ 66 ∷ 65 ∷ 65 ∷ []) accepted ∷  -- `-JAC-_AAABAA` accepted*
    example (around 40 []) accepted ∷  -- 02 g: "nests 40 groups"
    example (around 64 []) accepted ∷  -- "64 accepted,
    example (around 65 []) (refused 11 256) ∷  -- 65 refused 11"
    example (45 ∷ 45 ∷ 65 ∷ 65 ∷ 65 ∷ 66 ∷ 65 ∷ 65 ∷ []) (unframed 4 0) ∷  -- `--AAABAA` heads a large group of 4,096 units
    -- 02 h: "A large group below 4,096 units is thus 18"; streams that count 4,095 and 4,096 are in format_readings/Large
    example (45 ∷ 45 ∷ 65 ∷ 65 ∷ 65 ∷ 65 ∷ 65 ∷ 65 ∷ []) (refused 18 0) ∷  -- `--AAAAAA` 18
    example (45 ∷ 74 ∷ 65 ∷ 68 ∷ 45 ∷ 45 ∷ 65 ∷ 65 ∷ 65 ∷ 65 ∷ 65 ∷ 66 ∷ 77 ∷ 65 ∷ 65 ∷ 66 ∷ []) (refused 18 4) ∷  -- `-JAD--AAAAABMAAB` 18 at 4
    example (55 ∷ 65 ∷ 65 ∷ 66 ∷ 65 ∷ 65 ∷ 65 ∷ 65 ∷ []) (refused 18 0) ∷  -- `7AABAAAA` 18, as any large variable value that the small code holds
    -- 02 c: "as document 001 shows": the nine paths of its table
    example (54 ∷ 65 ∷ 65 ∷ 66 ∷ 65 ∷ 65 ∷ 65 ∷ 45 ∷ []) (spells (45 ∷ [])) ∷  -- `6AABAAA-`
    example (52 ∷ 65 ∷ 65 ∷ 68 ∷ 65 ∷ 45 ∷ 97 ∷ 45 ∷ 112 ∷ 101 ∷ 114 ∷ 115 ∷ 111 ∷ 110 ∷ 97 ∷ 108 ∷ []) (spells (45 ∷ 97 ∷ 45 ∷ 112 ∷ 101 ∷ 114 ∷ 115 ∷ 111 ∷ 110 ∷ 97 ∷ 108 ∷ [])) ∷  -- `4AADA-a-personal`
    example (52 ∷ 65 ∷ 65 ∷ 66 ∷ 45 ∷ 52 ∷ 45 ∷ 53 ∷ []) (spells (45 ∷ 52 ∷ 45 ∷ 53 ∷ [])) ∷  -- `4AAB-4-5`
    example (53 ∷ 65 ∷ 65 ∷ 69 ∷ 65 ∷ 65 ∷ 45 ∷ 52 ∷ 45 ∷ 53 ∷ 45 ∷ 108 ∷ 101 ∷ 103 ∷ 97 ∷ 108 ∷ 78 ∷ 97 ∷ 109 ∷ 101 ∷ []) (spells (45 ∷ 52 ∷ 45 ∷ 53 ∷ 45 ∷ 108 ∷ 101 ∷ 103 ∷ 97 ∷ 108 ∷ 78 ∷ 97 ∷ 109 ∷ 101 ∷ [])) ∷  -- `5AAEAA-4-5-legalName`
    example (54 ∷ 65 ∷ 65 ∷ 69 ∷ 65 ∷ 65 ∷ 65 ∷ 45 ∷ 97 ∷ 45 ∷ 112 ∷ 101 ∷ 114 ∷ 115 ∷ 111 ∷ 110 ∷ 97 ∷ 108 ∷ 45 ∷ 49 ∷ []) (spells (45 ∷ 97 ∷ 45 ∷ 112 ∷ 101 ∷ 114 ∷ 115 ∷ 111 ∷ 110 ∷ 97 ∷ 108 ∷ 45 ∷ 49 ∷ [])) ∷  -- `6AAEAAA-a-personal-1`
    example (52 ∷ 65 ∷ 65 ∷ 66 ∷ 45 ∷ 112 ∷ 45 ∷ 49 ∷ []) (spells (45 ∷ 112 ∷ 45 ∷ 49 ∷ [])) ∷  -- `4AAB-p-1`
    example (53 ∷ 65 ∷ 65 ∷ 67 ∷ 65 ∷ 65 ∷ 45 ∷ 97 ∷ 45 ∷ 76 ∷ 69 ∷ 73 ∷ []) (spells (45 ∷ 97 ∷ 45 ∷ 76 ∷ 69 ∷ 73 ∷ [])) ∷  -- `5AACAA-a-LEI`
    example (52 ∷ 65 ∷ 65 ∷ 67 ∷ 45 ∷ 112 ∷ 45 ∷ 48 ∷ 45 ∷ 48 ∷ 45 ∷ 100 ∷ []) (spells (45 ∷ 112 ∷ 45 ∷ 48 ∷ 45 ∷ 48 ∷ 45 ∷ 100 ∷ [])) ∷  -- `4AAC-p-0-0-d`
    example (53 ∷ 65 ∷ 65 ∷ 71 ∷ 65 ∷ 65 ∷ 45 ∷ 112 ∷ 45 ∷ 48 ∷ 45 ∷ 99 ∷ 101 ∷ 114 ∷ 116 ∷ 105 ∷ 102 ∷ 105 ∷ 101 ∷ 100 ∷ 76 ∷ 101 ∷ 110 ∷ 100 ∷ 101 ∷ 114 ∷ 45 ∷ 105 ∷ []) (spells (45 ∷ 112 ∷ 45 ∷ 48 ∷ 45 ∷ 99 ∷ 101 ∷ 114 ∷ 116 ∷ 105 ∷ 102 ∷ 105 ∷ 101 ∷ 100 ∷ 76 ∷ 101 ∷ 110 ∷ 100 ∷ 101 ∷ 114 ∷ 45 ∷ 105 ∷ [])) ∷  -- `5AAGAA-p-0-certifiedLender-i`
    example (52 ∷ 65 ∷ 65 ∷ 65 ∷ []) (spells []) ∷  -- "the empty text is `4AAA`"
    example (52 ∷ 65 ∷ 65 ∷ 66 ∷ 65 ∷ 65 ∷ 65 ∷ 65 ∷ []) (refused 16 0) ∷  -- "`4AABAAAA` is 16"
    example (52 ∷ 65 ∷ 65 ∷ 66 ∷ 65 ∷ 66 ∷ 67 ∷ 68 ∷ []) (spells (66 ∷ 67 ∷ 68 ∷ [])) ∷  -- `4AABABCD`: "4 and 7 take off one `A` if there is one"
    example (52 ∷ 65 ∷ 65 ∷ 66 ∷ 65 ∷ 65 ∷ 67 ∷ 68 ∷ []) (refused 16 0) ∷  -- `4AABAACD`: and then the text starts with `A`
    example (52 ∷ 65 ∷ 65 ∷ 66 ∷ 66 ∷ 65 ∷ 65 ∷ 65 ∷ []) (spells (66 ∷ 65 ∷ 65 ∷ 65 ∷ [])) ∷  -- `4AABBAAA`: an `A` behind the first character is text
    example (53 ∷ 65 ∷ 65 ∷ 66 ∷ 65 ∷ 65 ∷ 66 ∷ 67 ∷ []) (spells (66 ∷ 67 ∷ [])) ∷  -- `5AABAABC`: "5 and 8 exactly two"
    example (53 ∷ 65 ∷ 65 ∷ 66 ∷ 65 ∷ 65 ∷ 65 ∷ 67 ∷ []) (refused 16 0) ∷  -- `5AABAAAC`: the text starts with `A`
    example (53 ∷ 65 ∷ 65 ∷ 66 ∷ 65 ∷ 66 ∷ 67 ∷ 68 ∷ []) (refused 16 0) ∷  -- `5AABABCD`: "a value without the full fill"
    example (54 ∷ 65 ∷ 65 ∷ 66 ∷ 65 ∷ 65 ∷ 65 ∷ 66 ∷ []) (spells (66 ∷ [])) ∷  -- `6AABAAAB`: "6 and 9 exactly three"
    example (54 ∷ 65 ∷ 65 ∷ 66 ∷ 65 ∷ 65 ∷ 65 ∷ 65 ∷ []) (refused 16 0) ∷  -- `6AABAAAA`: the text starts with `A`
    example (54 ∷ 65 ∷ 65 ∷ 66 ∷ 65 ∷ 65 ∷ 66 ∷ 67 ∷ []) (refused 16 0) ∷  -- `6AABAABC`: without the full fill
    -- `E8wYuBjhslETYaLZcxMkWrhVbMcA8RS1pKYl7nJ77ntA` is refused 8
    example
    (69 ∷ 56 ∷ 119 ∷ 89 ∷ 117 ∷ 66 ∷ 106 ∷ 104 ∷ 115 ∷ 108 ∷ 69 ∷ 84 ∷ 89 ∷ 97 ∷ 76 ∷ 90 ∷ 99 ∷ 120 ∷ 77 ∷ 107 ∷ 87 ∷ 114 ∷
    104 ∷ 86 ∷ 98 ∷ 77 ∷ 99 ∷ 65 ∷ 56 ∷ 82 ∷ 83 ∷ 49 ∷ 112 ∷ 75 ∷ 89 ∷ 108 ∷ 55 ∷ 110 ∷ 74 ∷ 55 ∷ 55 ∷ 110 ∷ 116 ∷ 65 ∷ [])
    (refused 8 0) ∷
    []

-- ---- the claim

-- the deck, in text and in binary
pub deck-holds : Holds text (λ s. s) deck × Holds binary to_binary deck
unfolding given deck
deck-holds = (
  refl & refl & refl & refl & refl & refl & refl & refl & refl & refl & refl & refl & refl & refl & refl & refl &
      refl & refl & refl & refl & refl & refl & refl & refl & refl & refl & refl & refl & refl & refl & refl &
      refl & refl & refl & refl & refl & refl & refl & refl & refl & refl & refl & refl & refl & refl & refl &
      refl & refl & refl & refl & end,
  refl & refl & refl & refl & refl & refl & refl & refl & refl & refl & refl & refl & refl & refl & refl & refl &
      refl & refl & refl & refl & refl & refl & refl & refl & refl & refl & refl & refl & refl & refl & refl &
      refl & refl & refl & refl & refl & refl & refl & refl & refl & refl & refl & refl & refl & refl & refl &
      refl & refl & refl & refl & end,
)
