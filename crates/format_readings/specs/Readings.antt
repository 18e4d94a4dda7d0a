-- Readings of 01 that the deck leaves open, and which an example can tell: a second table over the definitions, in the deck's own form.
-- Text is written by its characters' numbers; what is expected is 01's and 003's word, or the reading in docs/DECISIONS.md. Assumes nothing.
use Rattle.std.specs.Prelude.{ℕ, refl, List, [], ◌∷◌}
use Rattle.format.specs.Units.{text, binary}
use Rattle.format.specs.Conversion.{to_binary}
use Rattle.format.specs.Deck.{Example, example, around, given, Holds}
use Rattle.format.specs.Deck.Expected.{accepted, raw, tag, refused, unframed}
use Rattle.format.specs.Deck.Holds.{end, ◌&◌}

-- ---- values, tags, codes, genus/version, groups

unfoldable pub readings : List Example
readings =
    example (52 ∷ 66 ∷ 65 ∷ 66 ∷ 65 ∷ 71 ∷ 104 ∷ 112 ∷ []) (raw (0 ∷ 104 ∷ 105 ∷ [])) ∷  -- `4BABAGhp`: lead 0
    example (55 ∷ 65 ∷ 65 ∷ 66 ∷ 65 ∷ 65 ∷ 65 ∷ 66 ∷ 65 ∷ 71 ∷ 104 ∷ 112 ∷ []) (refused 18 0) ∷  -- `7AABAAABAGhp`: a large one that a small one holds, lead 0
    example (56 ∷ 65 ∷ 65 ∷ 66 ∷ 65 ∷ 65 ∷ 65 ∷ 66 ∷ 65 ∷ 71 ∷ 104 ∷ 112 ∷ []) (refused 18 0) ∷  -- `8AABAAABAGhp`: lead 1
    example (57 ∷ 65 ∷ 65 ∷ 66 ∷ 65 ∷ 65 ∷ 65 ∷ 66 ∷ 65 ∷ 65 ∷ 66 ∷ 104 ∷ []) (refused 18 0) ∷  -- `9AABAAABAABh`: lead 2
    example (86 ∷ 66 ∷ 65 ∷ 65 ∷ []) (refused 8 0) ∷  -- `VBAA`: the lead byte of V
    example (54 ∷ 66 ∷ 65 ∷ 66 ∷ 65 ∷ 65 ∷ 69 ∷ 65 ∷ []) (refused 8 0) ∷  -- `6BABAAEA`: the second lead byte
    example (57 ∷ 65 ∷ 65 ∷ 66 ∷ 65 ∷ 65 ∷ 65 ∷ 66 ∷ 65 ∷ 65 ∷ 69 ∷ 65 ∷ []) (refused 18 0) ∷  -- `9AABAAABAAEA`: 18, then 8
    example (54 ∷ 66 ∷ 65 ∷ 65 ∷ []) (refused 9 0) ∷  -- `6BAA`: selector 6 with n = 0
    example (57 ∷ 65 ∷ 65 ∷ 66 ∷ 65 ∷ 65 ∷ 65 ∷ 65 ∷ []) (refused 18 0) ∷  -- `9AABAAAA`: 18, then 9
    example (88 ∷ 65 ∷ 66 ∷ 67 ∷ []) (tag (65 ∷ 66 ∷ 67 ∷ [])) ∷  -- `XABC`: three tag characters
    example (88 ∷ 95 ∷ 95 ∷ 95 ∷ []) (tag (95 ∷ 95 ∷ 95 ∷ [])) ∷  -- `X___`: no pad bits
    example (89 ∷ 65 ∷ 66 ∷ 67 ∷ 68 ∷ 69 ∷ 70 ∷ 71 ∷ []) (tag (65 ∷ 66 ∷ 67 ∷ 68 ∷ 69 ∷ 70 ∷ 71 ∷ [])) ∷  -- `YABCDEFG`: seven
    example (90 ∷ 65 ∷ 66 ∷ 67 ∷ 68 ∷ 69 ∷ 70 ∷ 71 ∷ 72 ∷ 73 ∷ 74 ∷ 75 ∷ []) (tag (65 ∷ 66 ∷ 67 ∷ 68 ∷ 69 ∷ 70 ∷ 71 ∷ 72 ∷ 73 ∷ 74 ∷ 75 ∷ [])) ∷  -- `ZABCDEFGHIJK`: eleven
    example (48 ∷ 75 ∷ 65 ∷ 66 ∷ []) (tag (65 ∷ 66 ∷ [])) ∷  -- `0KAB`: two
    example (48 ∷ 76 ∷ 95 ∷ 65 ∷ 66 ∷ 67 ∷ 68 ∷ 69 ∷ []) (tag (65 ∷ 66 ∷ 67 ∷ 68 ∷ 69 ∷ [])) ∷  -- `0L_ABCDE`: five behind a `_`
    example (48 ∷ 77 ∷ 65 ∷ 66 ∷ 67 ∷ 68 ∷ 69 ∷ 70 ∷ []) (tag (65 ∷ 66 ∷ 67 ∷ 68 ∷ 69 ∷ 70 ∷ [])) ∷  -- `0MABCDEF`: six
    example (48 ∷ 78 ∷ 95 ∷ 65 ∷ 66 ∷ 67 ∷ 68 ∷ 69 ∷ 70 ∷ 71 ∷ 72 ∷ 73 ∷ []) (tag (65 ∷ 66 ∷ 67 ∷ 68 ∷ 69 ∷ 70 ∷ 71 ∷ 72 ∷ 73 ∷ [])) ∷  -- `0N_ABCDEFGHI`: nine behind a `_`
    example (48 ∷ 79 ∷ 65 ∷ 66 ∷ 67 ∷ 68 ∷ 69 ∷ 70 ∷ 71 ∷ 72 ∷ 73 ∷ 74 ∷ []) (tag (65 ∷ 66 ∷ 67 ∷ 68 ∷ 69 ∷ 70 ∷ 71 ∷ 72 ∷ 73 ∷ 74 ∷ [])) ∷  -- `0OABCDEFGHIJ`: ten
    example (49 ∷ 65 ∷ 65 ∷ 70 ∷ 65 ∷ 66 ∷ 67 ∷ 68 ∷ []) (tag (65 ∷ 66 ∷ 67 ∷ 68 ∷ [])) ∷  -- `1AAFABCD`: four
    example (49 ∷ 65 ∷ 65 ∷ 78 ∷ 65 ∷ 66 ∷ 67 ∷ 68 ∷ 69 ∷ 70 ∷ 71 ∷ 72 ∷ []) (tag (65 ∷ 66 ∷ 67 ∷ 68 ∷ 69 ∷ 70 ∷ 71 ∷ 72 ∷ [])) ∷  -- `1AANABCDEFGH`: eight
    example (48 ∷ 76 ∷ 65 ∷ 65 ∷ 66 ∷ 67 ∷ 68 ∷ 69 ∷ []) (refused 10 0) ∷  -- `0LAABCDE`: tag prepad not `_`
    example (48 ∷ 78 ∷ 65 ∷ 65 ∷ 66 ∷ 67 ∷ 68 ∷ 69 ∷ 70 ∷ 71 ∷ 72 ∷ 73 ∷ []) (refused 10 0) ∷  -- `0NAABCDEFGHI`
    example (45 ∷ 99 ∷ 65 ∷ 65 ∷ []) accepted ∷  -- `-cAA`: the last group letter
    example (45 ∷ 100 ∷ 65 ∷ 65 ∷ []) (unframed 6 0) ∷  -- `-dAA`: and the one behind it
    example (52 ∷ 72 ∷ 65 ∷ 65 ∷ []) accepted ∷  -- `4HAA`: type H
    example (52 ∷ 71 ∷ 65 ∷ 65 ∷ []) (unframed 6 0) ∷  -- `4GAA`: type G is unknown
    example (55 ∷ 65 ∷ 65 ∷ 71 ∷ 65 ∷ 65 ∷ 65 ∷ 65 ∷ []) (unframed 6 0) ∷  -- `7AAGAAAA`
    example (55 ∷ 66 ∷ 65 ∷ 66 ∷ 65 ∷ 65 ∷ 65 ∷ 65 ∷ []) (unframed 6 0) ∷  -- `7BABAAAA`: a selector without `AA`
    example (55 ∷ 65 ∷ 66 ∷ 66 ∷ 65 ∷ 65 ∷ 65 ∷ 65 ∷ []) (unframed 6 0) ∷  -- `7ABBAAAA`
    example (49 ∷ 66 ∷ 65 ∷ 77 ∷ []) (unframed 6 0) ∷  -- `1BAM`: `1AA`+letter
    example (49 ∷ 65 ∷ 66 ∷ 77 ∷ []) (unframed 6 0) ∷  -- `1ABM`
    example (49 ∷ 65 ∷ 65 ∷ 81 ∷ []) (unframed 6 0) ∷  -- `1AAQ`: behind the last
    example (48 ∷ 80 ∷ 65 ∷ 65 ∷ []) (unframed 6 0) ∷  -- `0PAA`: grams are left out
    example (98 ∷ 65 ∷ 65 ∷ 65 ∷ []) (unframed 6 0) ∷  -- `bAAA`: no letter behind `a`
    example (50 ∷ 65 ∷ 65 ∷ 65 ∷ []) (unframed 6 0) ∷  -- `2AAA`
    example (51 ∷ 65 ∷ 65 ∷ 65 ∷ []) (unframed 6 0) ∷  -- `3AAA`
    example (95 ∷ 65 ∷ 65 ∷ 65 ∷ []) (unframed 6 0) ∷  -- `_AAA`: op codes are left out
    example (45 ∷ 45 ∷ 45 ∷ 65 ∷ 65 ∷ 65 ∷ 65 ∷ 65 ∷ []) (unframed 6 0) ∷  -- `---AAAAA`
    example (45 ∷ 45 ∷ 95 ∷ 65 ∷ 65 ∷ 65 ∷ 65 ∷ 65 ∷ []) (unframed 6 0) ∷  -- `--_AAAAA`
    example (45 ∷ 45 ∷ 100 ∷ 65 ∷ 65 ∷ 65 ∷ 65 ∷ 65 ∷ []) (unframed 6 0) ∷  -- `--dAAAAA`
    example (45 ∷ 57 ∷ 65 ∷ 65 ∷ []) (unframed 6 0) ∷  -- `-9AA`
    example (45 ∷ 95 ∷ 65 ∷ 65 ∷ 65 ∷ 67 ∷ 65 ∷ 65 ∷ []) accepted ∷  -- `-_AAACAA`: at top level
    example (45 ∷ 95 ∷ 65 ∷ 65 ∷ 65 ∷ 67 ∷ 65 ∷ 66 ∷ []) (unframed 7 0) ∷  -- `-_AAACAB`: its last digit counts
    example (45 ∷ 95 ∷ 66 ∷ 65 ∷ 65 ∷ 67 ∷ 65 ∷ 65 ∷ []) (unframed 7 0) ∷  -- `-_BAACAA`: and its first
    example (45 ∷ 66 ∷ 65 ∷ 67 ∷ 45 ∷ 95 ∷ 65 ∷ 65 ∷ 65 ∷ 66 ∷ 65 ∷ 65 ∷ []) (refused 7 4) ∷  -- `-BAC-_AAABAA`: first item of -B
    example (45 ∷ 67 ∷ 65 ∷ 67 ∷ 45 ∷ 95 ∷ 65 ∷ 65 ∷ 65 ∷ 66 ∷ 65 ∷ 65 ∷ []) (refused 7 4) ∷  -- `-CAC-_AAABAA`: of -C
    example (45 ∷ 68 ∷ 65 ∷ 67 ∷ 45 ∷ 95 ∷ 65 ∷ 65 ∷ 65 ∷ 66 ∷ 65 ∷ 65 ∷ []) accepted ∷  -- `-DAC-_AAABAA`: -D is not overrideable
    example (45 ∷ 65 ∷ 65 ∷ 68 ∷ 77 ∷ 65 ∷ 65 ∷ 66 ∷ 45 ∷ 95 ∷ 65 ∷ 65 ∷ 65 ∷ 66 ∷ 65 ∷ 65 ∷ []) accepted ∷  -- `-AADMAAB-_AAABAA`: the second item is a plain one
    example (45 ∷ 65 ∷ 65 ∷ 68 ∷ 45 ∷ 65 ∷ 65 ∷ 65 ∷ 45 ∷ 95 ∷ 65 ∷ 65 ∷ 65 ∷ 66 ∷ 65 ∷ 65 ∷ []) accepted ∷  -- `-AAD-AAA-_AAABAA`: an empty group is a first item and sets no mark
    example (45 ∷ 65 ∷ 65 ∷ 67 ∷ 45 ∷ 95 ∷ 65 ∷ 65 ∷ 65 ∷ 67 ∷ 65 ∷ 65 ∷ []) accepted ∷  -- `-AAC-_AAACAA`: `AAACAA` in -A
    example (45 ∷ 75 ∷ 65 ∷ 66 ∷ 95 ∷ 95 ∷ 95 ∷ 95 ∷ []) (refused 6 4) ∷  -- `-KAB____`: no units of any kind
    example (45 ∷ 76 ∷ 65 ∷ 66 ∷ 95 ∷ 95 ∷ 95 ∷ 95 ∷ []) (refused 6 4) ∷  -- `-LAB____`
    example (45 ∷ 45 ∷ 76 ∷ 65 ∷ 65 ∷ 65 ∷ 65 ∷ 66 ∷ 95 ∷ 95 ∷ 95 ∷ 95 ∷ []) (refused 18 0) ∷  -- `--LAAAAB____`: a large one of one unit
    example (45 ∷ 77 ∷ 65 ∷ 66 ∷ 95 ∷ 95 ∷ 95 ∷ 95 ∷ []) (refused 6 4) ∷  -- `-MAB____`
    example (45 ∷ 72 ∷ 65 ∷ 66 ∷ 77 ∷ 81 ∷ 65 ∷ 65 ∷ []) (refused 8 4) ∷  -- `-HABMQAA`: the contents of -H are items
    example (45 ∷ 45 ∷ 65 ∷ 65 ∷ 65 ∷ 65 ∷ 65 ∷ 66 ∷ 77 ∷ 65 ∷ 65 ∷ 66 ∷ []) (refused 18 0) ∷  -- `--AAAAABMAAB`: a large group of one unit
    example (45 ∷ 45 ∷ 65 ∷ 66 ∷ 65 ∷ 65 ∷ 65 ∷ 65 ∷ []) (unframed 4 0) ∷  -- `--ABAAAA`: the first of five digits counts
    example (45 ∷ 45 ∷ 99 ∷ 95 ∷ 95 ∷ 95 ∷ 95 ∷ 95 ∷ []) (unframed 4 0) ∷  -- `--c_____`: an extent above 2 to the 32
    example (around 64 (45 ∷ 75 ∷ 65 ∷ 65 ∷ [])) (refused 11 256) ∷  -- a sixty-fifth that is indexed: 11
    example (around 64 (45 ∷ 75 ∷ 65 ∷ 66 ∷ 77 ∷ 65 ∷ 65 ∷ 66 ∷ [])) (refused 11 256) ∷  -- and not empty
    example (around 64 (77 ∷ 65 ∷ 65 ∷ 66 ∷ [])) accepted ∷  -- a primitive within 64
    example (around 64 (45 ∷ 65 ∷ 65 ∷ 66 ∷ [])) (refused 4 256) ∷  -- its framing comes first
    []

-- in text and in binary
pub readings-hold : Holds text (λ s. s) readings × Holds binary to_binary readings
unfolding given readings
readings-hold = (
  refl & refl & refl & refl & refl & refl & refl & refl & refl & refl & refl & refl & refl & refl & refl & refl & refl & refl & refl & refl & refl & refl & refl & refl & refl & refl & refl & refl & refl & refl & refl & refl & refl & refl & refl & refl & refl & refl & refl & refl & refl & refl & refl & refl & refl & refl & refl & refl & refl & refl & refl & refl & refl & refl & refl & refl & refl & refl & refl & refl & refl & refl & end,
  refl & refl & refl & refl & refl & refl & refl & refl & refl & refl & refl & refl & refl & refl & refl & refl & refl & refl & refl & refl & refl & refl & refl & refl & refl & refl & refl & refl & refl & refl & refl & refl & refl & refl & refl & refl & refl & refl & refl & refl & refl & refl & refl & refl & refl & refl & refl & refl & refl & refl & refl & refl & refl & refl & refl & refl & refl & refl & refl & refl & refl & refl & end,
)

-- ---- where a character is outside the alphabet, which only a text can have

unfoldable pub stranger : List Example
stranger =
    example (77 ∷ 65 ∷ 65 ∷ 33 ∷ []) (unframed 5 0) ∷  -- `MAA!`: the header is whole units
    example (48 ∷ 65 ∷ 63 ∷ 33 ∷ []) (unframed 5 0) ∷  -- `0A?!`
    example (55 ∷ 65 ∷ 65 ∷ 66 ∷ 33 ∷ 95 ∷ 95 ∷ 33 ∷ []) (unframed 5 0) ∷  -- `7AAB!__!`: 5 in the second unit, then 4 (extent)
    example (45 ∷ 95 ∷ 65 ∷ 33 ∷ 65 ∷ 65 ∷ 65 ∷ 65 ∷ []) (unframed 5 0) ∷  -- `-_A!AAAA`: 5, then 7
    example (45 ∷ 65 ∷ 65 ∷ 66 ∷ 77 ∷ 65 ∷ 33 ∷ 66 ∷ []) (refused 5 6) ∷  -- `-AABMA!B`: an inner 5 is the item's verdict
    example (45 ∷ 65 ∷ 65 ∷ 67 ∷ 77 ∷ 65 ∷ 65 ∷ 66 ∷ 77 ∷ 65 ∷ 33 ∷ 66 ∷ []) (refused 5 10) ∷  -- `-AACMAABMA!B`: in the second item
    example (45 ∷ 75 ∷ 65 ∷ 66 ∷ 33 ∷ 33 ∷ 33 ∷ 33 ∷ []) (refused 5 4) ∷  -- `-KAB!!!!`: the first bad character
    example (53 ∷ 66 ∷ 65 ∷ 66 ∷ 65 ∷ 33 ∷ 104 ∷ 112 ∷ []) (refused 5 5) ∷  -- `5BABA!hp`: 5 behind the header, of a variable value
    example (53 ∷ 66 ∷ 65 ∷ 66 ∷ 81 ∷ 33 ∷ 104 ∷ 112 ∷ []) (refused 5 5) ∷  -- `5BABQ!hp`: then 8
    example (48 ∷ 76 ∷ 65 ∷ 65 ∷ 66 ∷ 33 ∷ 68 ∷ 69 ∷ []) (refused 5 5) ∷  -- `0LAAB!DE`: 5, then 10
    example (56 ∷ 65 ∷ 65 ∷ 66 ∷ 65 ∷ 65 ∷ 65 ∷ 66 ∷ 65 ∷ 33 ∷ 104 ∷ 112 ∷ []) (refused 5 9) ∷  -- `8AABAAABA!hp`: behind a header of two units
    example (around 64 (45 ∷ 75 ∷ 65 ∷ 66 ∷ 77 ∷ 33 ∷ 65 ∷ 66 ∷ [])) (refused 11 256) ∷  -- a sixty-fifth group that is indexed: 11, then 5
    example (77 ∷ 65 ∷ 65 ∷ 61 ∷ []) (unframed 19 0) ∷  -- `MAA=`: 02 j, as `MAA!` above
    example (45 ∷ 95 ∷ 65 ∷ 43 ∷ 65 ∷ 65 ∷ 65 ∷ 65 ∷ []) (unframed 19 0) ∷  -- `-_A+AAAA`: 19, then 7
    example (45 ∷ 65 ∷ 65 ∷ 67 ∷ 77 ∷ 65 ∷ 65 ∷ 66 ∷ 77 ∷ 65 ∷ 47 ∷ 66 ∷ []) (refused 19 10) ∷  -- `-AACMAABMA/B`: in the second item
    example (53 ∷ 66 ∷ 65 ∷ 66 ∷ 81 ∷ 43 ∷ 104 ∷ 112 ∷ []) (refused 19 5) ∷  -- `5BABQ+hp`: then 8
    example (48 ∷ 76 ∷ 65 ∷ 65 ∷ 66 ∷ 61 ∷ 68 ∷ 69 ∷ []) (refused 19 5) ∷  -- `0LAAB=DE`: 19, then 10
    example (around 64 (45 ∷ 75 ∷ 65 ∷ 66 ∷ 77 ∷ 43 ∷ 65 ∷ 66 ∷ [])) (refused 11 256) ∷  -- a sixty-fifth group that is indexed: 11, then 19
    []

pub stranger-holds : Holds text (λ s. s) stranger
unfolding given stranger
stranger-holds = refl & refl & refl & refl & refl & refl & refl & refl & refl & refl & refl & refl & refl & refl & refl & refl & refl & refl & end
