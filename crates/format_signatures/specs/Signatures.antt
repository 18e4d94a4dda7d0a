-- 02 a, "Open the signature groups": the deck's table for the items of `-K` and `-L`, beside the rows that stand with the definitions. Text
-- is written by its characters' numbers, with the text behind it, in which `A..` are so many `A` as the item's size asks; what is expected is
-- 02's word on 003's Indexed Code Table. Assumes nothing.
use Rattle.std.specs.Prelude.{refl, List, [], ◌∷◌, ◌++◌}
use Rattle.format.specs.Units.{text, binary}
use Rattle.format.specs.Conversion.{to_binary}
use Rattle.format.specs.Deck.{Example, example, around, given, Holds}
use Rattle.format.specs.Deck.Expected.{accepted, refused}
use Rattle.format.specs.Deck.Holds.{end, ◌&◌}
use Rattle.format.specs.Signatures.{filler}

-- ---- codes, pad bits, ondex, other starts, extents

unfoldable pub signatures : List Example
signatures =
    -- "twelve codes, with index and ondex": the largest digits of each
    example (45 ∷ 75 ∷ 65 ∷ 87 ∷ 65 ∷ 95 ∷ filler 86) accepted ∷  -- `-KAWA_A..`
    example (45 ∷ 75 ∷ 65 ∷ 87 ∷ 66 ∷ 95 ∷ filler 86) accepted ∷  -- `-KAWB_A..`
    example (45 ∷ 75 ∷ 65 ∷ 87 ∷ 67 ∷ 95 ∷ filler 86) accepted ∷  -- `-KAWC_A..`
    example (45 ∷ 75 ∷ 65 ∷ 87 ∷ 68 ∷ 95 ∷ filler 86) accepted ∷  -- `-KAWD_A..`
    example (45 ∷ 75 ∷ 65 ∷ 110 ∷ 48 ∷ 65 ∷ 95 ∷ 95 ∷ filler 152) accepted ∷  -- `-KAn0A__A..`
    example (45 ∷ 75 ∷ 65 ∷ 110 ∷ 48 ∷ 66 ∷ 95 ∷ filler 153) accepted ∷  -- `-KAn0B_A..`
    example (45 ∷ 76 ∷ 65 ∷ 88 ∷ 50 ∷ 66 ∷ 95 ∷ 95 ∷ filler 88) accepted ∷  -- `-LAX2B__A..`
    example (45 ∷ 76 ∷ 65 ∷ 88 ∷ 50 ∷ 67 ∷ 95 ∷ 95 ∷ 95 ∷ 95 ∷ filler 86) accepted ∷  -- `-LAX2C____A..`
    example (45 ∷ 76 ∷ 65 ∷ 88 ∷ 50 ∷ 68 ∷ 95 ∷ 95 ∷ filler 88) accepted ∷  -- `-LAX2D__A..`
    example (45 ∷ 76 ∷ 65 ∷ 111 ∷ 51 ∷ 65 ∷ 95 ∷ 95 ∷ 95 ∷ 95 ∷ 95 ∷ 95 ∷ filler 152) accepted ∷  -- `-LAo3A______A..`
    example (45 ∷ 76 ∷ 65 ∷ 111 ∷ 51 ∷ 66 ∷ 95 ∷ 95 ∷ 95 ∷ filler 155) accepted ∷  -- `-LAo3B___A..`
    -- "Four zero pad bits stand before the raw bytes of `A` to `D` and `2A` to `2D`": the last value that leaves them zero, and the next
    example (45 ∷ 75 ∷ 65 ∷ 87 ∷ 65 ∷ 66 ∷ 68 ∷ filler 85) accepted ∷  -- `-KAWABDA..`
    example (45 ∷ 75 ∷ 65 ∷ 87 ∷ 65 ∷ 66 ∷ 69 ∷ filler 85) (refused 8 4) ∷  -- `-KAWABEA..`
    example (45 ∷ 75 ∷ 65 ∷ 87 ∷ 66 ∷ 66 ∷ 68 ∷ filler 85) accepted ∷  -- `-KAWBBDA..`
    example (45 ∷ 75 ∷ 65 ∷ 87 ∷ 66 ∷ 66 ∷ 69 ∷ filler 85) (refused 8 4) ∷  -- `-KAWBBEA..`
    example (45 ∷ 75 ∷ 65 ∷ 87 ∷ 67 ∷ 66 ∷ 68 ∷ filler 85) accepted ∷  -- `-KAWCBDA..`
    example (45 ∷ 75 ∷ 65 ∷ 87 ∷ 67 ∷ 66 ∷ 69 ∷ filler 85) (refused 8 4) ∷  -- `-KAWCBEA..`
    example (45 ∷ 75 ∷ 65 ∷ 87 ∷ 68 ∷ 66 ∷ 68 ∷ filler 85) accepted ∷  -- `-KAWDBDA..`
    example (45 ∷ 75 ∷ 65 ∷ 87 ∷ 68 ∷ 66 ∷ 69 ∷ filler 85) (refused 8 4) ∷  -- `-KAWDBEA..`
    example (45 ∷ 75 ∷ 65 ∷ 88 ∷ 50 ∷ 65 ∷ 65 ∷ 66 ∷ 65 ∷ 65 ∷ 68 ∷ filler 85) accepted ∷  -- `-KAX2AABAADA..`
    example (45 ∷ 75 ∷ 65 ∷ 88 ∷ 50 ∷ 65 ∷ 65 ∷ 66 ∷ 65 ∷ 65 ∷ 69 ∷ filler 85) (refused 8 4) ∷  -- `-KAX2AABAAEA..`
    example (45 ∷ 75 ∷ 65 ∷ 88 ∷ 50 ∷ 66 ∷ 65 ∷ 66 ∷ 65 ∷ 65 ∷ 68 ∷ filler 85) accepted ∷  -- `-KAX2BABAADA..`
    example (45 ∷ 75 ∷ 65 ∷ 88 ∷ 50 ∷ 66 ∷ 65 ∷ 66 ∷ 65 ∷ 65 ∷ 69 ∷ filler 85) (refused 8 4) ∷  -- `-KAX2BABAAEA..`
    example (45 ∷ 75 ∷ 65 ∷ 88 ∷ 50 ∷ 67 ∷ 65 ∷ 66 ∷ 65 ∷ 65 ∷ 68 ∷ filler 85) accepted ∷  -- `-KAX2CABAADA..`
    example (45 ∷ 75 ∷ 65 ∷ 88 ∷ 50 ∷ 67 ∷ 65 ∷ 66 ∷ 65 ∷ 65 ∷ 69 ∷ filler 85) (refused 8 4) ∷  -- `-KAX2CABAAEA..`
    example (45 ∷ 75 ∷ 65 ∷ 88 ∷ 50 ∷ 68 ∷ 65 ∷ 66 ∷ 65 ∷ 65 ∷ 68 ∷ filler 85) accepted ∷  -- `-KAX2DABAADA..`
    example (45 ∷ 75 ∷ 65 ∷ 88 ∷ 50 ∷ 68 ∷ 65 ∷ 66 ∷ 65 ∷ 65 ∷ 69 ∷ filler 85) (refused 8 4) ∷  -- `-KAX2DABAAEA..`
    -- "none in the others"
    example (45 ∷ 75 ∷ 65 ∷ 110 ∷ 48 ∷ 65 ∷ 65 ∷ 65 ∷ 95 ∷ filler 151) accepted ∷  -- `-KAn0AAA_A..`
    example (45 ∷ 75 ∷ 65 ∷ 110 ∷ 48 ∷ 66 ∷ 65 ∷ 65 ∷ 95 ∷ filler 151) accepted ∷  -- `-KAn0BAA_A..`
    example (45 ∷ 75 ∷ 65 ∷ 111 ∷ 51 ∷ 65 ∷ 65 ∷ 65 ∷ 65 ∷ 65 ∷ 65 ∷ 65 ∷ 95 ∷ filler 151) accepted ∷  -- `-KAo3AAAAAAA_A..`
    example (45 ∷ 75 ∷ 65 ∷ 111 ∷ 51 ∷ 66 ∷ 65 ∷ 65 ∷ 65 ∷ 65 ∷ 65 ∷ 65 ∷ 95 ∷ filler 151) accepted ∷  -- `-KAo3BAAAAAA_A..`
    -- "The four "current only" codes that carry ondex digits must have them zero, else a new number 15, judged after 8"
    example (45 ∷ 75 ∷ 65 ∷ 88 ∷ 50 ∷ 66 ∷ 65 ∷ 65 ∷ 65 ∷ 66 ∷ filler 86) (refused 15 4) ∷  -- `-KAX2BAAABA..`
    example (45 ∷ 75 ∷ 65 ∷ 110 ∷ 48 ∷ 66 ∷ 65 ∷ 66 ∷ filler 152) (refused 15 4) ∷  -- `-KAn0BABA..`
    example (45 ∷ 75 ∷ 65 ∷ 88 ∷ 50 ∷ 66 ∷ 65 ∷ 65 ∷ 66 ∷ filler 87) (refused 15 4) ∷  -- `-KAX2BAABA..`: each of its digits counts
    example (45 ∷ 75 ∷ 65 ∷ 88 ∷ 50 ∷ 68 ∷ 65 ∷ 65 ∷ 65 ∷ 66 ∷ filler 86) (refused 15 4) ∷  -- `-KAX2DAAABA..`
    example (45 ∷ 75 ∷ 65 ∷ 111 ∷ 51 ∷ 66 ∷ 65 ∷ 65 ∷ 65 ∷ 65 ∷ 65 ∷ 66 ∷ filler 152) (refused 15 4) ∷  -- `-KAo3BAAAAABA..`
    example (45 ∷ 75 ∷ 65 ∷ 111 ∷ 51 ∷ 66 ∷ 65 ∷ 65 ∷ 65 ∷ 66 ∷ filler 154) (refused 15 4) ∷  -- `-KAo3BAAABA..`
    example (45 ∷ 75 ∷ 65 ∷ 88 ∷ 50 ∷ 68 ∷ 65 ∷ 65 ∷ 65 ∷ 66 ∷ 69 ∷ filler 85) (refused 8 4) ∷  -- `-KAX2DAAABEA..`
    -- "Nothing but indexed items may stand there; any other start is 6"
    example (45 ∷ 75 ∷ 65 ∷ 66 ∷ 77 ∷ 65 ∷ 65 ∷ 66 ∷ []) (refused 6 4) ∷  -- `-KABMAAB`
    example (45 ∷ 75 ∷ 65 ∷ 66 ∷ 88 ∷ 65 ∷ 65 ∷ 65 ∷ []) (refused 6 4) ∷  -- `-KABXAAA`
    example (45 ∷ 75 ∷ 65 ∷ 66 ∷ 97 ∷ 65 ∷ 65 ∷ 65 ∷ []) (refused 6 4) ∷  -- `-KABaAAA`
    example (45 ∷ 75 ∷ 65 ∷ 66 ∷ 48 ∷ 67 ∷ 65 ∷ 65 ∷ []) (refused 6 4) ∷  -- `-KAB0CAA`
    example (45 ∷ 75 ∷ 65 ∷ 66 ∷ 49 ∷ 65 ∷ 65 ∷ 77 ∷ []) (refused 6 4) ∷  -- `-KAB1AAM`
    example (45 ∷ 75 ∷ 65 ∷ 66 ∷ 49 ∷ 65 ∷ 65 ∷ 65 ∷ []) (refused 6 4) ∷  -- `-KAB1AAA`
    example (45 ∷ 75 ∷ 65 ∷ 66 ∷ 50 ∷ 69 ∷ 65 ∷ 65 ∷ []) (refused 6 4) ∷  -- `-KAB2EAA`: selectors of the indexed table, and no letter of it
    example (45 ∷ 75 ∷ 65 ∷ 66 ∷ 51 ∷ 67 ∷ 65 ∷ 65 ∷ []) (refused 6 4) ∷  -- `-KAB3CAA`
    example (45 ∷ 75 ∷ 65 ∷ 66 ∷ 52 ∷ 66 ∷ 65 ∷ 65 ∷ []) (refused 6 4) ∷  -- `-KAB4BAA`: a variable value
    example (45 ∷ 75 ∷ 65 ∷ 66 ∷ 55 ∷ 65 ∷ 65 ∷ 66 ∷ []) (refused 6 4) ∷  -- `-KAB7AAB`
    example (45 ∷ 75 ∷ 65 ∷ 66 ∷ 45 ∷ 65 ∷ 65 ∷ 65 ∷ []) (refused 6 4) ∷  -- `-KAB-AAA`: a group
    example (45 ∷ 75 ∷ 65 ∷ 66 ∷ 45 ∷ 75 ∷ 65 ∷ 65 ∷ []) (refused 6 4) ∷  -- `-KAB-KAA`: an indexed one too
    example (45 ∷ 75 ∷ 65 ∷ 66 ∷ 95 ∷ 65 ∷ 65 ∷ 65 ∷ []) (refused 6 4) ∷  -- `-KAB_AAA`
    example (45 ∷ 75 ∷ 65 ∷ 67 ∷ 45 ∷ 45 ∷ 65 ∷ 65 ∷ 65 ∷ 65 ∷ 65 ∷ 65 ∷ []) (refused 6 4) ∷  -- `-KAC--AAAAAA`
    example (45 ∷ 75 ∷ 65 ∷ 67 ∷ 45 ∷ 95 ∷ 65 ∷ 65 ∷ 65 ∷ 67 ∷ 65 ∷ 65 ∷ []) (refused 6 4) ∷  -- `-KAC-_AAACAA`: a genus/version
    example (45 ∷ 75 ∷ 65 ∷ 67 ∷ 45 ∷ 95 ∷ 65 ∷ 65 ∷ 65 ∷ 66 ∷ 65 ∷ 65 ∷ []) (refused 6 4) ∷  -- `-KAC-_AAABAA`: 6, and never 7
    -- a start that both tables have is read by the indexed one: a key of 44 characters is not an item here, one of 88 is
    example (45 ∷ 75 ∷ 65 ∷ 87 ∷ 68 ∷ filler 87) accepted ∷  -- `-KAWDA..`
    example (45 ∷ 75 ∷ 65 ∷ 71 ∷ 48 ∷ filler 23) (refused 4 4) ∷  -- `-KAG0A..`
    example (45 ∷ 75 ∷ 65 ∷ 87 ∷ 48 ∷ 66 ∷ filler 86) (refused 4 4) ∷  -- `-KAW0BA..`
    -- "The header is one unit, or two for selectors 2 and 3"
    example (45 ∷ 75 ∷ 65 ∷ 66 ∷ 65 ∷ 65 ∷ 65 ∷ 65 ∷ []) (refused 4 4) ∷  -- `-KABAAAA`: 4 (extent)
    example (45 ∷ 75 ∷ 65 ∷ 67 ∷ 50 ∷ 65 ∷ 65 ∷ 65 ∷ 65 ∷ 65 ∷ 65 ∷ 65 ∷ []) (refused 4 4) ∷  -- `-KAC2AAAAAAA`: 4 (extent)
    example (45 ∷ 75 ∷ 65 ∷ 67 ∷ 51 ∷ 65 ∷ 65 ∷ 65 ∷ 65 ∷ 65 ∷ 65 ∷ 65 ∷ []) (refused 4 4) ∷  -- `-KAC3AAAAAAA`
    -- groups: empty, two items, within others
    example (45 ∷ 75 ∷ 65 ∷ 65 ∷ []) accepted ∷  -- `-KAA`
    example (45 ∷ 76 ∷ 65 ∷ 65 ∷ []) accepted ∷  -- `-LAA`
    example (45 ∷ 75 ∷ 65 ∷ 115 ∷ 65 ∷ 66 ∷ (filler 86 ++ (66 ∷ 66 ∷ filler 86))) accepted ∷  -- `-KAsABA..BBA..`
    example (45 ∷ 75 ∷ 65 ∷ 115 ∷ 65 ∷ 66 ∷ (filler 86 ++ (66 ∷ 66 ∷ 69 ∷ filler 85))) (refused 8 92) ∷  -- `-KAsABA..BBEA..`: the second item
    example (45 ∷ 75 ∷ 65 ∷ 88 ∷ 65 ∷ 66 ∷ (filler 86 ++ (69 ∷ 65 ∷ 65 ∷ 65 ∷ []))) (refused 6 92) ∷  -- `-KAXABA..EAAA`
    example (45 ∷ 65 ∷ 65 ∷ 88 ∷ 45 ∷ 75 ∷ 65 ∷ 87 ∷ 65 ∷ 66 ∷ filler 86) accepted ∷  -- `-AAX-KAWABA..`
    example (45 ∷ 65 ∷ 65 ∷ 88 ∷ 45 ∷ 75 ∷ 65 ∷ 87 ∷ 65 ∷ 66 ∷ 69 ∷ filler 85) (refused 8 8) ∷  -- `-AAX-KAWABEA..`
    example (45 ∷ 65 ∷ 65 ∷ 68 ∷ 45 ∷ 75 ∷ 65 ∷ 65 ∷ 45 ∷ 95 ∷ 65 ∷ 65 ∷ 65 ∷ 66 ∷ 65 ∷ 65 ∷ []) accepted ∷  -- `-AAD-KAA-_AAABAA`: an indexed group is a first item and sets no mark
    example (45 ∷ 75 ∷ 65 ∷ 76 ∷ 68 ∷ filler 43) (refused 4 4) ∷  -- `-KALDA..`
    example (45 ∷ 65 ∷ 65 ∷ 89 ∷ 45 ∷ 75 ∷ 65 ∷ 87 ∷ 65 ∷ 66 ∷ (filler 86 ++ (77 ∷ 65 ∷ 65 ∷ 66 ∷ []))) accepted ∷  -- `-AAY-KAWABA..MAAB`: behind it the master table again
    example (45 ∷ 88 ∷ 65 ∷ 76 ∷ 68 ∷ filler 43) accepted ∷  -- `-XALDA..`: `-X` is no indexed group
    -- 001's three indexed signatures, of which the second alone has zero pad bits
    example (45 ∷ 75 ∷ 65 ∷ 87 ∷ 65 ∷ 65 ∷ 53 ∷ 50 ∷ 54 ∷ 55 ∷ 85 ∷ 108 ∷ 70 ∷ 103 ∷ 49 ∷ 106 ∷ 72 ∷ 101 ∷ 101 ∷ 52 ∷ 68 ∷ 97 ∷ 117 ∷ 104 ∷ 116 ∷ 55 ∷ 55 ∷ 83 ∷ 122 ∷ 71 ∷ 108 ∷ 56 ∷ 87 ∷ 85 ∷ 67 ∷ 95 ∷ 48 ∷ 111 ∷ 105 ∷ 109 ∷ 89 ∷ 71 ∷ 53 ∷ 73 ∷ 102 ∷ 51 ∷ 83 ∷ 100 ∷ 73 ∷ 79 ∷ 83 ∷ 122 ∷ 87 ∷ 77 ∷ 56 ∷ 81 ∷ 115 ∷ 57 ∷ 83 ∷ 70 ∷ 97 ∷ 106 ∷ 65 ∷ 105 ∷ 108 ∷ 81 ∷ 99 ∷ 111 ∷ 122 ∷ 88 ∷ 74 ∷ 86 ∷ 110 ∷ 98 ∷ 107 ∷ 89 ∷ 53 ∷ 115 ∷ 116 ∷ 71 ∷ 95 ∷ 75 ∷ 52 ∷ 78 ∷ 98 ∷ 75 ∷ 100 ∷ 78 ∷ 66 ∷ 52 ∷ 65 ∷ 81 ∷ []) (refused 8 4) ∷  -- `-KAWAA5267UlFg1jHee4Dauht77SzGl8WUC_0oimYG5If3SdIOSzWM8Qs9SFajAilQcozXJVnbkY5stG_K4NbKdNB4AQ`
    example (45 ∷ 75 ∷ 65 ∷ 87 ∷ 65 ∷ 66 ∷ 66 ∷ 103 ∷ 101 ∷ 113 ∷ 110 ∷ 116 ∷ 90 ∷ 87 ∷ 51 ∷ 71 ∷ 117 ∷ 52 ∷ 72 ∷ 76 ∷ 48 ∷ 104 ∷ 51 ∷ 111 ∷ 100 ∷ 89 ∷ 122 ∷ 54 ∷ 76 ∷ 97 ∷ 90 ∷ 95 ∷ 83 ∷ 77 ∷ 102 ∷ 109 ∷ 73 ∷ 84 ∷ 76 ∷ 45 ∷ 66 ∷ 116 ∷ 111 ∷ 113 ∷ 95 ∷ 55 ∷ 79 ∷ 90 ∷ 70 ∷ 101 ∷ 51 ∷ 76 ∷ 49 ∷ 54 ∷ 106 ∷ 109 ∷ 79 ∷ 101 ∷ 52 ∷ 57 ∷ 85 ∷ 114 ∷ 49 ∷ 48 ∷ 56 ∷ 119 ∷ 72 ∷ 55 ∷ 109 ∷ 110 ∷ 66 ∷ 97 ∷ 113 ∷ 50 ∷ 69 ∷ 95 ∷ 48 ∷ 85 ∷ 48 ∷ 78 ∷ 48 ∷ 99 ∷ 53 ∷ 118 ∷ 103 ∷ 114 ∷ 74 ∷ 116 ∷ 68 ∷ 112 ∷ 65 ∷ 81 ∷ []) accepted ∷  -- `-KAWABBgeqntZW3Gu4HL0h3odYz6LaZ_SMfmITL-Btoq_7OZFe3L16jmOe49Ur108wH7mnBaq2E_0U0N0c5vgrJtDpAQ`
    example (45 ∷ 75 ∷ 65 ∷ 87 ∷ 65 ∷ 67 ∷ 84 ∷ 68 ∷ 55 ∷ 78 ∷ 68 ∷ 88 ∷ 57 ∷ 51 ∷ 90 ∷ 71 ∷ 84 ∷ 107 ∷ 90 ∷ 66 ∷ 66 ∷ 117 ∷ 83 ∷ 101 ∷ 83 ∷ 71 ∷ 115 ∷ 65 ∷ 81 ∷ 55 ∷ 117 ∷ 48 ∷ 104 ∷ 110 ∷ 103 ∷ 112 ∷ 78 ∷ 84 ∷ 90 ∷ 84 ∷ 75 ∷ 95 ∷ 85 ∷ 109 ∷ 55 ∷ 114 ∷ 85 ∷ 90 ∷ 71 ∷ 110 ∷ 76 ∷ 82 ∷ 78 ∷ 74 ∷ 118 ∷ 111 ∷ 53 ∷ 111 ∷ 79 ∷ 110 ∷ 110 ∷ 67 ∷ 49 ∷ 74 ∷ 50 ∷ 105 ∷ 66 ∷ 81 ∷ 72 ∷ 117 ∷ 120 ∷ 111 ∷ 113 ∷ 56 ∷ 80 ∷ 121 ∷ 106 ∷ 100 ∷ 84 ∷ 51 ∷ 66 ∷ 72 ∷ 83 ∷ 50 ∷ 76 ∷ 105 ∷ 80 ∷ 114 ∷ 115 ∷ 50 ∷ 67 ∷ 103 ∷ []) (refused 8 4) ∷  -- `-KAWACTD7NDX93ZGTkZBBuSeSGsAQ7u0hngpNTZTK_Um7rUZGnLRNJvo5oOnnC1J2iBQHuxoq8PyjdT3BHS2LiPrs2Cg`
    []

-- ---- the order of the numbers

unfoldable pub signature_order : List Example
signature_order =
    -- framing: 4 (first unit), 5 (its first bad character), 6, 4 (second unit), 5, 4 (extent)
    example (45 ∷ 75 ∷ 65 ∷ 66 ∷ 45 ∷ 33 ∷ 65 ∷ 65 ∷ []) (refused 5 5) ∷  -- `-KAB-!AA`: 5, then 6
    example (45 ∷ 75 ∷ 65 ∷ 66 ∷ 65 ∷ 33 ∷ 65 ∷ 65 ∷ []) (refused 5 5) ∷  -- `-KABA!AA`: 5, then 4 (extent)
    example (45 ∷ 75 ∷ 65 ∷ 66 ∷ 50 ∷ 69 ∷ 65 ∷ 65 ∷ []) (refused 6 4) ∷  -- `-KAB2EAA`: 6, then 4 (second unit)
    example (45 ∷ 75 ∷ 65 ∷ 88 ∷ 50 ∷ 65 ∷ 65 ∷ 65 ∷ 65 ∷ 65 ∷ 69 ∷ 33 ∷ filler 84) (refused 5 11) ∷  -- `-KAX2AAAAAE!A..`: value characters of the second unit are header: 5, then 8
    example (45 ∷ 75 ∷ 65 ∷ 111 ∷ 51 ∷ 65 ∷ 65 ∷ 65 ∷ 65 ∷ 65 ∷ 61 ∷ filler 153) (refused 19 10) ∷  -- `-KAo3AAAAA=A..`
    -- judging: 5 behind the header, 8, 15
    example (45 ∷ 75 ∷ 65 ∷ 87 ∷ 65 ∷ 66 ∷ 69 ∷ (filler 84 ++ (33 ∷ []))) (refused 5 91) ∷  -- `-KAWABEA..!`: 5, then 8
    example (45 ∷ 75 ∷ 65 ∷ 88 ∷ 50 ∷ 66 ∷ 65 ∷ 65 ∷ 65 ∷ 66 ∷ (filler 85 ++ (61 ∷ []))) (refused 19 95) ∷  -- `-KAX2BAAABA..=`: 19, then 15
    example (45 ∷ 75 ∷ 65 ∷ 110 ∷ 48 ∷ 66 ∷ 65 ∷ 66 ∷ 33 ∷ filler 151) (refused 5 8) ∷  -- `-KAn0BAB!A..`
    -- 11, then 18, then its items
    example (around 64 (45 ∷ 75 ∷ 65 ∷ 66 ∷ 69 ∷ 65 ∷ 65 ∷ 65 ∷ [])) (refused 11 256) ∷  -- an indexed group within 64: 11, then 6
    example (around 63 (45 ∷ 75 ∷ 65 ∷ 87 ∷ 65 ∷ 66 ∷ 69 ∷ filler 85)) (refused 8 256) ∷  -- within 63 its items are judged
    example (around 63 (45 ∷ 75 ∷ 65 ∷ 87 ∷ 65 ∷ 66 ∷ filler 86)) accepted ∷
    []

-- ---- the claim

-- in text and in binary
pub signatures-hold : Holds text (λ s. s) signatures × Holds binary to_binary signatures
unfolding given signatures
signatures-hold = (
  refl & refl & refl & refl & refl & refl & refl & refl & refl & refl & refl & refl & refl & refl & refl & refl &
      refl & refl & refl & refl & refl & refl & refl & refl & refl & refl & refl & refl & refl & refl & refl & refl &
      refl & refl & refl & refl & refl & refl & refl & refl & refl & refl & refl & refl & refl & refl & refl & refl &
      refl & refl & refl & refl & refl & refl & refl & refl & refl & refl & refl & refl & refl & refl & refl & refl &
      refl & refl & refl & refl & refl & refl & refl & refl & refl & refl & end,
  refl & refl & refl & refl & refl & refl & refl & refl & refl & refl & refl & refl & refl & refl & refl & refl &
      refl & refl & refl & refl & refl & refl & refl & refl & refl & refl & refl & refl & refl & refl & refl & refl &
      refl & refl & refl & refl & refl & refl & refl & refl & refl & refl & refl & refl & refl & refl & refl & refl &
      refl & refl & refl & refl & refl & refl & refl & refl & refl & refl & refl & refl & refl & refl & refl & refl &
      refl & refl & refl & refl & refl & refl & refl & refl & refl & refl & end,
)

-- in text: some of its characters are outside the alphabet
pub signature-order-holds : Holds text (λ s. s) signature_order
unfolding given signature_order
signature-order-holds =
    refl & refl & refl & refl & refl & refl & refl & refl & refl & refl & refl & end
