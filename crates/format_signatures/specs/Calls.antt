-- 02 a: calls that read and write single indexed items, beside the few that stand with the definitions. Each order of numbers is shown by a
-- call that tells a number from the one asked next. What is expected is 02's word on 003's Indexed Code Table. Text is written by its
-- characters' numbers; a buffer holds nines. Assumes nothing.
use Rattle.std.specs.Prelude.{refl, List, [], ◌∷◌, ◌++◌}
use Rattle.format.specs.Signatures.{filler}
use Rattle.format.specs.SignatureCalls.{Asked, asked, code, item, zeros, nines, signature, signature_raw, told, Tells}
use Rattle.format.specs.SignatureCalls.Call.{ReadText, ReadBinary, WriteText, WriteBinary}
use Rattle.format.specs.SignatureCalls.Outcome.{refused, written, read, read_part}
use Rattle.format.specs.SignatureCalls.Tells.{end, ◌&◌}

unfoldable pub signature_calls : List Asked
signature_calls =
    -- reading: index and ondex of each code; 001's indexed signature
    asked (ReadText (66 ∷ 95 ∷ filler 86) 0 (nines 64)) (read (item 0 66 22 2 64 63 0) (zeros 64)) ∷  -- `B_A..`, room 64
    asked (ReadText (67 ∷ 66 ∷ filler 86) 0 (nines 64)) (read (item 0 67 22 2 64 1 0) (zeros 64)) ∷  -- `CBA..`, room 64
    asked (ReadText (68 ∷ filler 87) 0 (nines 64)) (read (item 0 68 22 2 64 0 0) (zeros 64)) ∷  -- `DA..`, room 64
    asked (ReadText (48 ∷ 66 ∷ 95 ∷ filler 153) 0 (nines 114)) (read (item 48 66 39 3 114 63 0) (zeros 114)) ∷  -- `0B_A..`, room 114
    asked (ReadText (50 ∷ 65 ∷ 66 ∷ 65 ∷ 66 ∷ 67 ∷ filler 86) 0 (nines 64)) (read (item 50 65 23 5 64 64 66) (zeros 64)) ∷  -- `2ABABCA..`, room 64
    asked (ReadText (50 ∷ 66 ∷ 95 ∷ 95 ∷ filler 88) 0 (nines 64)) (read (item 50 66 23 5 64 4095 0) (zeros 64)) ∷  -- `2B__A..`, room 64
    asked (ReadText (50 ∷ 67 ∷ 65 ∷ 66 ∷ 95 ∷ 95 ∷ filler 86) 0 (nines 64)) (read (item 50 67 23 5 64 1 4095) (zeros 64)) ∷  -- `2CAB__A..`, room 64
    asked (ReadText (50 ∷ 68 ∷ 95 ∷ filler 89) 0 (nines 64)) (read (item 50 68 23 5 64 4032 0) (zeros 64)) ∷  -- `2D_A..`, room 64
    asked (ReadText (51 ∷ 65 ∷ 66 ∷ 65 ∷ 65 ∷ 65 ∷ 65 ∷ 66 ∷ filler 152) 0 (nines 114)) (read (item 51 65 40 6 114 4096 1) (zeros 114)) ∷  -- `3ABAAAABA..`, room 114
    asked (ReadText (51 ∷ 66 ∷ 95 ∷ 95 ∷ 95 ∷ filler 155) 0 (nines 114)) (read (item 51 66 40 6 114 262143 0) (zeros 114)) ∷  -- `3B___A..`, room 114
    -- "then 3 for T, where raw is copied out"
    asked (ReadText signature 0 (nines 63)) (refused 3 0 (nines 63)) ∷  -- 001's, room 63: 3
    asked (ReadText signature 0 (nines 66)) (read (item 0 65 22 2 64 1 0) (signature_raw ++ nines 2)) ∷  -- 001's, room 66: bytes behind it stay
    asked (ReadText (45 ∷ 75 ∷ 65 ∷ 87 ∷ signature) 4 (nines 64)) (read (item 0 65 22 2 64 1 0) signature_raw) ∷  -- `-KAW..` at 4, room 64
    -- 1, 4 at or past the end, framing, judging, then 3
    asked (ReadText signature 88 []) (refused 4 88 []) ∷  -- 001's at 88, room 0: 4 at the end
    asked (ReadText signature 99 []) (refused 4 99 []) ∷  -- 001's at 99, room 0: 4 past the end
    asked (ReadText (65 ∷ 65 ∷ 65 ∷ 65 ∷ []) 0 []) (refused 4 0 []) ∷  -- `AAAA`, room 0: 4 (extent)
    asked (ReadText (77 ∷ 65 ∷ 65 ∷ 66 ∷ 50 ∷ 65 ∷ 65 ∷ 65 ∷ []) 4 []) (refused 4 4 []) ∷  -- `MAAB2AAA` at 4, room 0: 4 (second unit)
    asked (ReadText (77 ∷ 65 ∷ 65 ∷ 66 ∷ 50 ∷ 65 ∷ 33 ∷ 65 ∷ []) 4 []) (refused 5 6 []) ∷  -- `MAAB2A!A` at 4, room 0: places counted from the stream's start
    asked (ReadText (50 ∷ 65 ∷ 65 ∷ 65 ∷ 65 ∷ 65 ∷ 61 ∷ 65 ∷ []) 0 []) (refused 19 6 []) ∷  -- `2AAAAA=A`, room 0
    asked (ReadText (45 ∷ 75 ∷ 65 ∷ 65 ∷ []) 0 []) (refused 6 0 []) ∷  -- `-KAA`, room 0
    asked (ReadText (45 ∷ 95 ∷ 65 ∷ 65 ∷ 65 ∷ 67 ∷ 65 ∷ 65 ∷ []) 0 []) (refused 6 0 []) ∷  -- `-_AAACAA`, room 0: a genus/version too
    asked (ReadText (69 ∷ filler 43) 0 []) (refused 6 0 []) ∷  -- `EA..`, room 0
    asked (ReadText (77 ∷ 65 ∷ 65 ∷ 66 ∷ []) 0 []) (refused 6 0 []) ∷  -- `MAAB`, room 0
    asked (ReadText (68 ∷ filler 43) 0 []) (refused 4 0 []) ∷  -- `DA..`, room 0: a key of the master table
    asked (ReadText (77 ∷ 65 ∷ 65 ∷ 66 ∷ 65 ∷ 66 ∷ 69 ∷ filler 85) 4 []) (refused 8 4 []) ∷  -- `MAABABEA..` at 4, room 0: 8, then 3
    asked (ReadText (77 ∷ 65 ∷ 65 ∷ 66 ∷ 48 ∷ 66 ∷ 65 ∷ 66 ∷ filler 152) 4 []) (refused 15 4 []) ∷  -- `MAAB0BABA..` at 4, room 0: 15, then 3
    asked (ReadText (50 ∷ 68 ∷ 65 ∷ 65 ∷ 65 ∷ 66 ∷ 69 ∷ filler 85) 0 []) (refused 8 0 []) ∷  -- `2DAAABEA..`, room 0: 8, then 15
    asked (ReadText (50 ∷ 68 ∷ 65 ∷ 65 ∷ 65 ∷ 66 ∷ 69 ∷ (filler 84 ++ (33 ∷ []))) 0 []) (refused 5 91 []) ∷  -- `2DAAABEA..!`, room 0: 5, then 8
    -- "In B the raw value is handed back as the part of the binary stream where it lies"
    asked (ReadBinary (248 ∷ 160 ∷ 22 ∷ 0 ∷ 16 ∷ signature_raw) 3) (read_part (item 0 65 22 2 64 1 0) signature_raw) ∷  -- `-KAW..` in B at 3
    asked (ReadBinary (208 ∷ 0 ∷ 127 ∷ (zeros 111 ++ (255 ∷ 255 ∷ 255 ∷ []))) 0) (read_part (item 48 65 39 3 114 1 63) (zeros 111 ++ (255 ∷ 255 ∷ 255 ∷ []))) ∷  -- `0AB_A..____` in B
    asked (ReadBinary (216 ∷ 0 ∷ 64 ∷ 4 ∷ 32 ∷ (zeros 61 ++ (255 ∷ 255 ∷ 255 ∷ []))) 0) (read_part (item 50 65 23 5 64 64 66) (zeros 61 ++ (255 ∷ 255 ∷ 255 ∷ []))) ∷  -- `2ABABCA..____` in B
    asked (ReadBinary (220 ∷ 16 ∷ 64 ∷ (zeros 114 ++ (255 ∷ 255 ∷ 255 ∷ []))) 0) (read_part (item 51 66 40 6 114 4096 0) (zeros 111 ++ (255 ∷ 255 ∷ 255 ∷ []))) ∷  -- `3BBA..____` in B
    asked (ReadBinary (0 ∷ 17 ∷ zeros 64) 0) (refused 8 0 []) ∷  -- `ABEA..` in B: 8
    asked (ReadBinary (48 ∷ 0 ∷ 1 ∷ 208 ∷ 16 ∷ 1 ∷ zeros 114) 3) (refused 15 3 []) ∷  -- `MAAB0BABA..` in B at 3: 15
    asked (ReadBinary (248 ∷ 0 ∷ 0 ∷ []) 0) (refused 6 0 []) ∷  -- `-AAA` in B: 6
    asked (ReadBinary (0 ∷ 16 ∷ signature_raw) 66) (refused 4 66 []) ∷  -- 001's in B at 66: 4 at the end
    -- writing: index and ondex of each code
    asked (WriteText (code 0 66) 63 0 (zeros 64) (nines 88)) (written 88 (66 ∷ 95 ∷ filler 86)) ∷  -- `B_A..`
    asked (WriteText (code 0 67) 1 0 (zeros 64) (nines 88)) (written 88 (67 ∷ 66 ∷ filler 86)) ∷  -- `CBA..`
    asked (WriteText (code 0 68) 0 0 (zeros 64) (nines 88)) (written 88 (68 ∷ filler 87)) ∷  -- `DA..`
    asked (WriteText (code 48 66) 63 0 (zeros 114) (nines 156)) (written 156 (48 ∷ 66 ∷ 95 ∷ filler 153)) ∷  -- `0B_A..`
    asked (WriteText (code 50 65) 64 66 (zeros 64) (nines 92)) (written 92 (50 ∷ 65 ∷ 66 ∷ 65 ∷ 66 ∷ 67 ∷ filler 86)) ∷  -- `2ABABCA..`
    asked (WriteText (code 50 66) 4095 0 (zeros 64) (nines 92)) (written 92 (50 ∷ 66 ∷ 95 ∷ 95 ∷ filler 88)) ∷  -- `2B__A..`
    asked (WriteText (code 50 67) 1 4095 (zeros 64) (nines 92)) (written 92 (50 ∷ 67 ∷ 65 ∷ 66 ∷ 95 ∷ 95 ∷ filler 86)) ∷  -- `2CAB__A..`
    asked (WriteText (code 50 68) 4032 0 (zeros 64) (nines 92)) (written 92 (50 ∷ 68 ∷ 95 ∷ filler 89)) ∷  -- `2D_A..`
    asked (WriteText (code 51 65) 4096 1 (zeros 114) (nines 160)) (written 160 (51 ∷ 65 ∷ 66 ∷ 65 ∷ 65 ∷ 65 ∷ 65 ∷ 66 ∷ filler 152)) ∷  -- `3ABAAAABA..`
    asked (WriteText (code 51 66) 262143 0 (zeros 114) (nines 160)) (written 160 (51 ∷ 66 ∷ 95 ∷ 95 ∷ 95 ∷ filler 155)) ∷  -- `3B___A..`
    asked (WriteText (code 0 65) 1 0 signature_raw (nines 90)) (written 88 (signature ++ nines 2)) ∷  -- characters behind it stay
    asked (WriteBinary (code 51 65) 4096 1 (zeros 114) (nines 120)) (written 120 (220 ∷ 0 ∷ 64 ∷ 0 ∷ 0 ∷ 1 ∷ zeros 114)) ∷  -- `3ABAAAABA..` in B
    asked (WriteBinary (code 50 67) 1 4095 (zeros 64) (nines 69)) (written 69 (216 ∷ 32 ∷ 1 ∷ 255 ∷ 240 ∷ zeros 64)) ∷  -- `2CAB__A..` in B
    -- 6: any code that is not one of the twelve, then 12
    asked (WriteText (code 0 69) 64 1 [] []) (refused 6 0 []) ∷  -- `E`
    asked (WriteText (code 0 97) 64 1 [] []) (refused 6 0 []) ∷  -- `a`
    asked (WriteText (code 48 67) 64 1 [] []) (refused 6 0 []) ∷  -- `0C`
    asked (WriteText (code 49 65) 64 1 [] []) (refused 6 0 []) ∷  -- `1A`
    asked (WriteText (code 50 69) 64 1 [] []) (refused 6 0 []) ∷  -- `2E`
    asked (WriteText (code 51 67) 64 1 [] []) (refused 6 0 []) ∷  -- `3C`
    asked (WriteText (code 65 65) 64 1 [] []) (refused 6 0 []) ∷  -- `AA`
    asked (WriteText (code 45 65) 64 1 [] []) (refused 6 0 []) ∷  -- `-A`
    asked (WriteBinary (code 0 69) 64 1 [] []) (refused 6 0 []) ∷  -- in B
    -- 12: the raw length, or "an index or ondex too large for its digits (without digits, any but 0)"
    asked (WriteText (code 0 65) 0 0 (zeros 63) []) (refused 12 0 []) ∷  -- a byte too few
    asked (WriteText (code 0 65) 0 0 (zeros 65) []) (refused 12 0 []) ∷  -- a byte too many
    asked (WriteText (code 48 65) 0 0 (zeros 64) []) (refused 12 0 []) ∷  --
    asked (WriteText (code 0 65) 64 0 (zeros 64) []) (refused 12 0 []) ∷  -- `A`, index 64, ondex 0
    asked (WriteText (code 0 66) 0 1 (zeros 64) []) (refused 12 0 []) ∷  -- `B`, index 0, ondex 1: without ondex digits, "current only" or not
    asked (WriteText (code 0 68) 0 1 (zeros 64) []) (refused 12 0 []) ∷  -- `D`, index 0, ondex 1
    asked (WriteText (code 48 65) 64 0 (zeros 114) []) (refused 12 0 []) ∷  -- `0A`, index 64, ondex 0
    asked (WriteText (code 48 65) 0 64 (zeros 114) []) (refused 12 0 []) ∷  -- `0A`, index 0, ondex 64
    asked (WriteText (code 50 65) 4096 0 (zeros 64) []) (refused 12 0 []) ∷  -- `2A`, index 4096, ondex 0
    asked (WriteText (code 50 65) 0 4096 (zeros 64) []) (refused 12 0 []) ∷  -- `2A`, index 0, ondex 4096
    asked (WriteText (code 51 65) 262144 0 (zeros 114) []) (refused 12 0 []) ∷  -- `3A`, index 262144, ondex 0
    asked (WriteText (code 51 65) 0 262144 (zeros 114) []) (refused 12 0 []) ∷  -- `3A`, index 0, ondex 262144
    asked (WriteText (code 48 66) 0 64 (zeros 114) []) (refused 12 0 []) ∷  -- 12, then 15
    asked (WriteText (code 48 66) 0 1 (zeros 64) []) (refused 12 0 []) ∷  -- the raw length too
    asked (WriteText (code 50 66) 4096 1 (zeros 64) []) (refused 12 0 []) ∷  -- and the index
    -- 15: "a nonzero ondex for a "current only" code is 15 after 12, place 0", then 3
    asked (WriteText (code 48 66) 0 63 (zeros 114) []) (refused 15 0 []) ∷  -- `0B`, ondex 63
    asked (WriteText (code 50 66) 0 1 (zeros 64) []) (refused 15 0 []) ∷  -- `2B`, ondex 1
    asked (WriteText (code 50 66) 0 64 (zeros 64) []) (refused 15 0 []) ∷  -- `2B`, ondex 64
    asked (WriteText (code 50 68) 0 4095 (zeros 64) []) (refused 15 0 []) ∷  -- `2D`, ondex 4095
    asked (WriteText (code 51 66) 0 1 (zeros 114) []) (refused 15 0 []) ∷  -- `3B`, ondex 1
    asked (WriteText (code 51 66) 0 262143 (zeros 114) []) (refused 15 0 []) ∷  -- `3B`, ondex 262143
    asked (WriteBinary (code 48 66) 0 1 (zeros 114) []) (refused 15 0 []) ∷  -- in B
    -- 3: the exact size
    asked (WriteText (code 0 65) 1 0 (zeros 64) (nines 87)) (refused 3 0 (nines 87)) ∷  --
    asked (WriteBinary (code 0 65) 1 0 (zeros 64) (nines 65)) (refused 3 0 (nines 65)) ∷  -- in B
    asked (WriteText (code 50 65) 1 1 (zeros 64) (nines 91)) (refused 3 0 (nines 91)) ∷  --
    []

-- ---- the claim

pub signature-calls-hold : Tells signature_calls
unfolding told signature_calls
signature-calls-hold =
    refl & refl & refl & refl & refl & refl & refl & refl & refl & refl & refl & refl & refl & refl & refl & refl &
    refl & refl & refl & refl & refl & refl & refl & refl & refl & refl & refl & refl & refl & refl & refl & refl &
    refl & refl & refl & refl & refl & refl & refl & refl & refl & refl & refl & refl & refl & refl & refl & refl &
    refl & refl & refl & refl & refl & refl & refl & refl & refl & refl & refl & refl & refl & refl & refl & refl &
    refl & refl & refl & refl & refl & refl & refl & refl & refl & refl & refl & refl & refl & refl & refl & refl &
    refl & refl & refl & end
