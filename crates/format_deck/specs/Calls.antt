-- 01, "Numbers a vendor sees" and "The report": calls with what they answer and what the buffer holds afterwards, beside the few that stand
-- with the definitions. Each order of numbers is shown by a call that tells a number from the one asked next (but 9, 8, 10, which no item tells
-- apart: D60). Text is written by its characters' numbers; a buffer holds nines. What is expected is 01's word. Assumes nothing.
use Rattle.std.specs.Prelude.{refl, List, [], ◌∷◌}
use Rattle.format.specs.declared.Code.TheVariants as C
use Rattle.format.specs.Units.{text, binary}
use Rattle.format.specs.Offsets.{binary_offset}
use Rattle.format.specs.Calls.{Asked, asked, answered, Answers}
use Rattle.format.specs.Calls.Call.{ToBinary, ToText, Reports, ReadText, ReadBinary, WriteText, WriteBinary}
use Rattle.format.specs.Calls.Outcome.{refused, written, read, read_part}
use Rattle.format.specs.Calls.Answers.{end, ◌&◌}

unfoldable pub calls : List Asked
calls =
    asked (ToBinary (77 ∷ 33 ∷ 65 ∷ []) (9 ∷ 9 ∷ 9 ∷ [])) (refused 2 0 (9 ∷ 9 ∷ 9 ∷ [])) ∷  -- `M!A`, room 3: 2, then 5
    asked (ToBinary (77 ∷ 65 ∷ 65 ∷ []) []) (refused 2 0 []) ∷  -- `MAA`, room 0: 2, then 3
    asked (ToBinary (77 ∷ 65 ∷ 65 ∷ 66 ∷ 77 ∷ 33 ∷ 65 ∷ 33 ∷ []) (9 ∷ 9 ∷ 9 ∷ 9 ∷ 9 ∷ 9 ∷ [])) (refused 5 5 (9 ∷ 9 ∷ 9 ∷ 9 ∷ 9 ∷ 9 ∷ [])) ∷  -- `MAABM!A!`, room 6: 5 at the first bad character
    asked (ToBinary (77 ∷ 43 ∷ 65 ∷ []) (9 ∷ 9 ∷ 9 ∷ [])) (refused 2 0 (9 ∷ 9 ∷ 9 ∷ [])) ∷  -- `M+A`, room 3: 2, then 19
    asked (ToBinary (77 ∷ 65 ∷ 61 ∷ 66 ∷ []) []) (refused 19 2 []) ∷  -- `MA=B`, room 0: 19, then 3
    asked (ToBinary (77 ∷ 65 ∷ 65 ∷ 66 ∷ 77 ∷ 47 ∷ 65 ∷ 33 ∷ []) (9 ∷ 9 ∷ 9 ∷ 9 ∷ 9 ∷ 9 ∷ [])) (refused 19 5 (9 ∷ 9 ∷ 9 ∷ 9 ∷ 9 ∷ 9 ∷ [])) ∷  -- `MAABM/A!`: the first bad character, of whichever kind
    asked (ToBinary (77 ∷ 65 ∷ 65 ∷ 66 ∷ 77 ∷ 33 ∷ 65 ∷ 47 ∷ []) (9 ∷ 9 ∷ 9 ∷ 9 ∷ 9 ∷ 9 ∷ [])) (refused 5 5 (9 ∷ 9 ∷ 9 ∷ 9 ∷ 9 ∷ 9 ∷ [])) ∷  -- `MAABM!A/`
    asked (ToBinary (77 ∷ 65 ∷ 65 ∷ 66 ∷ []) (9 ∷ 9 ∷ [])) (refused 3 0 (9 ∷ 9 ∷ [])) ∷  -- `MAAB`, room 2: 3
    asked (ToBinary (77 ∷ 65 ∷ 65 ∷ 66 ∷ []) (9 ∷ 9 ∷ 9 ∷ [])) (written 3 (48 ∷ 0 ∷ 1 ∷ [])) ∷  -- `MAAB`, room 3: the exact size
    asked (ToBinary (77 ∷ 65 ∷ 65 ∷ 66 ∷ []) (9 ∷ 9 ∷ 9 ∷ 9 ∷ [])) (written 3 (48 ∷ 0 ∷ 1 ∷ 9 ∷ [])) ∷  -- `MAAB`, room 4: bytes behind it stay
    asked (ToBinary [] (9 ∷ [])) (written 0 (9 ∷ [])) ∷  -- ``, room 1: nothing
    asked (ToBinary (65 ∷ 66 ∷ 67 ∷ 68 ∷ 69 ∷ 70 ∷ 71 ∷ 72 ∷ 73 ∷ 74 ∷ 75 ∷ 76 ∷ 77 ∷ 78 ∷ 79 ∷ 80 ∷ 81 ∷ 82 ∷ 83 ∷ 84 ∷ 85 ∷ 86 ∷ 87 ∷ 88 ∷ 89 ∷ 90 ∷ 97 ∷ 98 ∷ 99 ∷ 100 ∷ 101 ∷ 102 ∷ 103 ∷ 104 ∷ 105 ∷ 106 ∷ 107 ∷ 108 ∷ 109 ∷ 110 ∷ 111 ∷ 112 ∷ 113 ∷ 114 ∷ 115 ∷ 116 ∷ 117 ∷ 118 ∷ 119 ∷ 120 ∷ 121 ∷ 122 ∷ 48 ∷ 49 ∷ 50 ∷ 51 ∷ 52 ∷ 53 ∷ 54 ∷ 55 ∷ 56 ∷ 57 ∷ 45 ∷ 95 ∷ []) (0 ∷ 0 ∷ 0 ∷ 0 ∷ 0 ∷ 0 ∷ 0 ∷ 0 ∷ 0 ∷ 0 ∷ 0 ∷ 0 ∷ 0 ∷ 0 ∷ 0 ∷ 0 ∷ 0 ∷ 0 ∷ 0 ∷ 0 ∷ 0 ∷ 0 ∷ 0 ∷ 0 ∷ 0 ∷ 0 ∷ 0 ∷ 0 ∷ 0 ∷ 0 ∷ 0 ∷ 0 ∷ 0 ∷ 0 ∷ 0 ∷ 0 ∷ 0 ∷ 0 ∷ 0 ∷ 0 ∷ 0 ∷ 0 ∷ 0 ∷ 0 ∷ 0 ∷ 0 ∷ 0 ∷ 0 ∷ [])) (written 48 (0 ∷ 16 ∷ 131 ∷ 16 ∷ 81 ∷ 135 ∷ 32 ∷ 146 ∷ 139 ∷ 48 ∷ 211 ∷ 143 ∷ 65 ∷ 20 ∷ 147 ∷ 81 ∷ 85 ∷ 151 ∷ 97 ∷ 150 ∷ 155 ∷ 113 ∷ 215 ∷ 159 ∷ 130 ∷ 24 ∷ 163 ∷ 146 ∷ 89 ∷ 167 ∷ 162 ∷ 154 ∷ 171 ∷ 178 ∷ 219 ∷ 175 ∷ 195 ∷ 28 ∷ 179 ∷ 211 ∷ 93 ∷ 183 ∷ 227 ∷ 158 ∷ 187 ∷ 243 ∷ 223 ∷ 191 ∷ [])) ∷  -- the whole alphabet, 0 to 63
    asked (ToText (48 ∷ 0 ∷ []) []) (refused 2 0 []) ∷  -- two bytes, no room: 2, then 3
    asked (ToText (48 ∷ 0 ∷ 1 ∷ []) (9 ∷ 9 ∷ 9 ∷ [])) (refused 3 0 (9 ∷ 9 ∷ 9 ∷ [])) ∷  -- `MAAB` in B, room 3: 3
    asked (ToText (0 ∷ 16 ∷ 131 ∷ 16 ∷ 81 ∷ 135 ∷ 32 ∷ 146 ∷ 139 ∷ 48 ∷ 211 ∷ 143 ∷ 65 ∷ 20 ∷ 147 ∷ 81 ∷ 85 ∷ 151 ∷ 97 ∷ 150 ∷ 155 ∷ 113 ∷ 215 ∷ 159 ∷ 130 ∷ 24 ∷ 163 ∷ 146 ∷ 89 ∷ 167 ∷ 162 ∷ 154 ∷ 171 ∷ 178 ∷ 219 ∷ 175 ∷ 195 ∷ 28 ∷ 179 ∷ 211 ∷ 93 ∷ 183 ∷ 227 ∷ 158 ∷ 187 ∷ 243 ∷ 223 ∷ 191 ∷ []) (0 ∷ 0 ∷ 0 ∷ 0 ∷ 0 ∷ 0 ∷ 0 ∷ 0 ∷ 0 ∷ 0 ∷ 0 ∷ 0 ∷ 0 ∷ 0 ∷ 0 ∷ 0 ∷ 0 ∷ 0 ∷ 0 ∷ 0 ∷ 0 ∷ 0 ∷ 0 ∷ 0 ∷ 0 ∷ 0 ∷ 0 ∷ 0 ∷ 0 ∷ 0 ∷ 0 ∷ 0 ∷ 0 ∷ 0 ∷ 0 ∷ 0 ∷ 0 ∷ 0 ∷ 0 ∷ 0 ∷ 0 ∷ 0 ∷ 0 ∷ 0 ∷ 0 ∷ 0 ∷ 0 ∷ 0 ∷ 0 ∷ 0 ∷ 0 ∷ 0 ∷ 0 ∷ 0 ∷ 0 ∷ 0 ∷ 0 ∷ 0 ∷ 0 ∷ 0 ∷ 0 ∷ 0 ∷ 0 ∷ 0 ∷ [])) (written 64 (65 ∷ 66 ∷ 67 ∷ 68 ∷ 69 ∷ 70 ∷ 71 ∷ 72 ∷ 73 ∷ 74 ∷ 75 ∷ 76 ∷ 77 ∷ 78 ∷ 79 ∷ 80 ∷ 81 ∷ 82 ∷ 83 ∷ 84 ∷ 85 ∷ 86 ∷ 87 ∷ 88 ∷ 89 ∷ 90 ∷ 97 ∷ 98 ∷ 99 ∷ 100 ∷ 101 ∷ 102 ∷ 103 ∷ 104 ∷ 105 ∷ 106 ∷ 107 ∷ 108 ∷ 109 ∷ 110 ∷ 111 ∷ 112 ∷ 113 ∷ 114 ∷ 115 ∷ 116 ∷ 117 ∷ 118 ∷ 119 ∷ 120 ∷ 121 ∷ 122 ∷ 48 ∷ 49 ∷ 50 ∷ 51 ∷ 52 ∷ 53 ∷ 54 ∷ 55 ∷ 56 ∷ 57 ∷ 45 ∷ 95 ∷ [])) ∷  -- the whole alphabet back
    asked (Reports text (45 ∷ 65 ∷ 65 ∷ 66 ∷ 48 ∷ 65 ∷ 65 ∷ 65 ∷ 77 ∷ 65 ∷ 65 ∷ 66 ∷ []) (9 ∷ 9 ∷ 9 ∷ 9 ∷ 9 ∷ 9 ∷ 9 ∷ 9 ∷ 9 ∷ 9 ∷ 9 ∷ 9 ∷ 9 ∷ 9 ∷ 9 ∷ 9 ∷ 9 ∷ 9 ∷ 9 ∷ 9 ∷ 9 ∷ 9 ∷ 9 ∷ 9 ∷ 9 ∷ 9 ∷ 9 ∷ 9 ∷ 9 ∷ 9 ∷ 9 ∷ 9 ∷ 9 ∷ 9 ∷ 9 ∷ 9 ∷ 9 ∷ 9 ∷ 9 ∷ 9 ∷ 9 ∷ 9 ∷ 9 ∷ 9 ∷ 9 ∷ 9 ∷ 9 ∷ 9 ∷ 9 ∷ 9 ∷ 9 ∷ 9 ∷ [])) (refused 3 0 (9 ∷ 9 ∷ 9 ∷ 9 ∷ 9 ∷ 9 ∷ 9 ∷ 9 ∷ 9 ∷ 9 ∷ 9 ∷ 9 ∷ 9 ∷ 9 ∷ 9 ∷ 9 ∷ 9 ∷ 9 ∷ 9 ∷ 9 ∷ 9 ∷ 9 ∷ 9 ∷ 9 ∷ 9 ∷ 9 ∷ 9 ∷ 9 ∷ 9 ∷ 9 ∷ 9 ∷ 9 ∷ 9 ∷ 9 ∷ 9 ∷ 9 ∷ 9 ∷ 9 ∷ 9 ∷ 9 ∷ 9 ∷ 9 ∷ 9 ∷ 9 ∷ 9 ∷ 9 ∷ 9 ∷ 9 ∷ 9 ∷ 9 ∷ 9 ∷ 9 ∷ [])) ∷  -- `-AAB0AAAMAAB`, room 52: 3
    asked (Reports text (45 ∷ 65 ∷ 65 ∷ 66 ∷ 48 ∷ 65 ∷ 65 ∷ 65 ∷ 77 ∷ 65 ∷ 65 ∷ 66 ∷ []) (9 ∷ 9 ∷ 9 ∷ 9 ∷ 9 ∷ 9 ∷ 9 ∷ 9 ∷ 9 ∷ 9 ∷ 9 ∷ 9 ∷ 9 ∷ 9 ∷ 9 ∷ 9 ∷ 9 ∷ 9 ∷ 9 ∷ 9 ∷ 9 ∷ 9 ∷ 9 ∷ 9 ∷ 9 ∷ 9 ∷ 9 ∷ 9 ∷ 9 ∷ 9 ∷ 9 ∷ 9 ∷ 9 ∷ 9 ∷ 9 ∷ 9 ∷ 9 ∷ 9 ∷ 9 ∷ 9 ∷ 9 ∷ 9 ∷ 9 ∷ 9 ∷ 9 ∷ 9 ∷ 9 ∷ 9 ∷ 9 ∷ 9 ∷ 9 ∷ 9 ∷ 9 ∷ [])) (written 39 (0 ∷ 0 ∷ 0 ∷ 2 ∷ 0 ∷ 0 ∷ 0 ∷ 0 ∷ 0 ∷ 0 ∷ 0 ∷ 8 ∷ 4 ∷ 0 ∷ 0 ∷ 0 ∷ 8 ∷ 0 ∷ 0 ∷ 0 ∷ 4 ∷ 0 ∷ 0 ∷ 0 ∷ 0 ∷ 1 ∷ 0 ∷ 0 ∷ 0 ∷ 0 ∷ 4 ∷ 0 ∷ 0 ∷ 0 ∷ 4 ∷ 0 ∷ 0 ∷ 0 ∷ 0 ∷ 9 ∷ 9 ∷ 9 ∷ 9 ∷ 9 ∷ 9 ∷ 9 ∷ 9 ∷ 9 ∷ 9 ∷ 9 ∷ 9 ∷ 9 ∷ 9 ∷ [])) ∷  -- room 53, 39 bytes
    asked (Reports text [] (9 ∷ 9 ∷ 9 ∷ 9 ∷ 9 ∷ 9 ∷ 9 ∷ 9 ∷ 9 ∷ 9 ∷ 9 ∷ 9 ∷ 9 ∷ 9 ∷ 9 ∷ 9 ∷ [])) (refused 3 0 (9 ∷ 9 ∷ 9 ∷ 9 ∷ 9 ∷ 9 ∷ 9 ∷ 9 ∷ 9 ∷ 9 ∷ 9 ∷ 9 ∷ 9 ∷ 9 ∷ 9 ∷ 9 ∷ [])) ∷  -- the empty stream, room 16: 3
    asked (Reports text [] (9 ∷ 9 ∷ 9 ∷ 9 ∷ 9 ∷ 9 ∷ 9 ∷ 9 ∷ 9 ∷ 9 ∷ 9 ∷ 9 ∷ 9 ∷ 9 ∷ 9 ∷ 9 ∷ 9 ∷ [])) (written 12 (0 ∷ 0 ∷ 0 ∷ 0 ∷ 0 ∷ 0 ∷ 0 ∷ 0 ∷ 0 ∷ 0 ∷ 0 ∷ 0 ∷ 9 ∷ 9 ∷ 9 ∷ 9 ∷ 9 ∷ [])) ∷  -- room 17, 12 bytes
    asked (Reports text (77 ∷ 65 ∷ 65 ∷ 66 ∷ []) (9 ∷ 9 ∷ 9 ∷ 9 ∷ 9 ∷ 9 ∷ 9 ∷ 9 ∷ 9 ∷ 9 ∷ 9 ∷ 9 ∷ 9 ∷ 9 ∷ 9 ∷ 9 ∷ 9 ∷ 9 ∷ 9 ∷ 9 ∷ 9 ∷ 9 ∷ 9 ∷ 9 ∷ 9 ∷ 9 ∷ 9 ∷ 9 ∷ 9 ∷ 9 ∷ 9 ∷ 9 ∷ 9 ∷ 9 ∷ 9 ∷ [])) (written 21 (0 ∷ 0 ∷ 0 ∷ 1 ∷ 0 ∷ 0 ∷ 0 ∷ 0 ∷ 0 ∷ 0 ∷ 0 ∷ 4 ∷ 0 ∷ 0 ∷ 0 ∷ 0 ∷ 0 ∷ 0 ∷ 0 ∷ 0 ∷ 0 ∷ 9 ∷ 9 ∷ 9 ∷ 9 ∷ 9 ∷ 9 ∷ 9 ∷ 9 ∷ 9 ∷ 9 ∷ 9 ∷ 9 ∷ 9 ∷ 9 ∷ [])) ∷  -- room 35, 21 bytes
    asked (Reports text (77 ∷ 65 ∷ 65 ∷ 66 ∷ 77 ∷ 81 ∷ 65 ∷ 65 ∷ []) (9 ∷ 9 ∷ 9 ∷ 9 ∷ 9 ∷ 9 ∷ 9 ∷ 9 ∷ 9 ∷ 9 ∷ 9 ∷ 9 ∷ 9 ∷ 9 ∷ 9 ∷ 9 ∷ 9 ∷ 9 ∷ 9 ∷ 9 ∷ 9 ∷ 9 ∷ 9 ∷ 9 ∷ 9 ∷ 9 ∷ 9 ∷ 9 ∷ 9 ∷ 9 ∷ 9 ∷ 9 ∷ 9 ∷ 9 ∷ 9 ∷ 9 ∷ 9 ∷ 9 ∷ 9 ∷ 9 ∷ 9 ∷ 9 ∷ 9 ∷ 9 ∷ 9 ∷ 9 ∷ 9 ∷ 9 ∷ 9 ∷ 9 ∷ 9 ∷ 9 ∷ [])) (refused 3 0 (9 ∷ 9 ∷ 9 ∷ 9 ∷ 9 ∷ 9 ∷ 9 ∷ 9 ∷ 9 ∷ 9 ∷ 9 ∷ 9 ∷ 9 ∷ 9 ∷ 9 ∷ 9 ∷ 9 ∷ 9 ∷ 9 ∷ 9 ∷ 9 ∷ 9 ∷ 9 ∷ 9 ∷ 9 ∷ 9 ∷ 9 ∷ 9 ∷ 9 ∷ 9 ∷ 9 ∷ 9 ∷ 9 ∷ 9 ∷ 9 ∷ 9 ∷ 9 ∷ 9 ∷ 9 ∷ 9 ∷ 9 ∷ 9 ∷ 9 ∷ 9 ∷ 9 ∷ 9 ∷ 9 ∷ 9 ∷ 9 ∷ 9 ∷ 9 ∷ 9 ∷ [])) ∷  -- `MAABMQAA`, the second item refused, room 52: 3
    asked (Reports text (77 ∷ 65 ∷ 65 ∷ 66 ∷ 77 ∷ 81 ∷ 65 ∷ 65 ∷ []) (9 ∷ 9 ∷ 9 ∷ 9 ∷ 9 ∷ 9 ∷ 9 ∷ 9 ∷ 9 ∷ 9 ∷ 9 ∷ 9 ∷ 9 ∷ 9 ∷ 9 ∷ 9 ∷ 9 ∷ 9 ∷ 9 ∷ 9 ∷ 9 ∷ 9 ∷ 9 ∷ 9 ∷ 9 ∷ 9 ∷ 9 ∷ 9 ∷ 9 ∷ 9 ∷ 9 ∷ 9 ∷ 9 ∷ 9 ∷ 9 ∷ 9 ∷ 9 ∷ 9 ∷ 9 ∷ 9 ∷ 9 ∷ 9 ∷ 9 ∷ 9 ∷ 9 ∷ 9 ∷ 9 ∷ 9 ∷ 9 ∷ 9 ∷ 9 ∷ 9 ∷ 9 ∷ [])) (written 39 (0 ∷ 0 ∷ 0 ∷ 2 ∷ 0 ∷ 0 ∷ 0 ∷ 0 ∷ 0 ∷ 0 ∷ 0 ∷ 4 ∷ 0 ∷ 0 ∷ 0 ∷ 0 ∷ 4 ∷ 0 ∷ 0 ∷ 0 ∷ 4 ∷ 8 ∷ 0 ∷ 0 ∷ 0 ∷ 1 ∷ 0 ∷ 0 ∷ 0 ∷ 1 ∷ 8 ∷ 0 ∷ 0 ∷ 0 ∷ 4 ∷ 0 ∷ 0 ∷ 0 ∷ 0 ∷ 9 ∷ 9 ∷ 9 ∷ 9 ∷ 9 ∷ 9 ∷ 9 ∷ 9 ∷ 9 ∷ 9 ∷ 9 ∷ 9 ∷ 9 ∷ 9 ∷ [])) ∷  -- room 53, 39 bytes
    asked (Reports text (77 ∷ 65 ∷ 65 ∷ 66 ∷ 77 ∷ 65 ∷ 33 ∷ 33 ∷ []) (9 ∷ 9 ∷ 9 ∷ 9 ∷ 9 ∷ 9 ∷ 9 ∷ 9 ∷ 9 ∷ 9 ∷ 9 ∷ 9 ∷ 9 ∷ 9 ∷ 9 ∷ 9 ∷ 9 ∷ 9 ∷ 9 ∷ 9 ∷ 9 ∷ 9 ∷ 9 ∷ 9 ∷ 9 ∷ 9 ∷ 9 ∷ 9 ∷ 9 ∷ 9 ∷ 9 ∷ 9 ∷ 9 ∷ 9 ∷ [])) (refused 3 0 (9 ∷ 9 ∷ 9 ∷ 9 ∷ 9 ∷ 9 ∷ 9 ∷ 9 ∷ 9 ∷ 9 ∷ 9 ∷ 9 ∷ 9 ∷ 9 ∷ 9 ∷ 9 ∷ 9 ∷ 9 ∷ 9 ∷ 9 ∷ 9 ∷ 9 ∷ 9 ∷ 9 ∷ 9 ∷ 9 ∷ 9 ∷ 9 ∷ 9 ∷ 9 ∷ 9 ∷ 9 ∷ 9 ∷ 9 ∷ [])) ∷  -- `MAABMA!!`, a remainder from the item's start, room 34: 3
    asked (Reports text (77 ∷ 65 ∷ 65 ∷ 66 ∷ 77 ∷ 65 ∷ 33 ∷ 33 ∷ []) (9 ∷ 9 ∷ 9 ∷ 9 ∷ 9 ∷ 9 ∷ 9 ∷ 9 ∷ 9 ∷ 9 ∷ 9 ∷ 9 ∷ 9 ∷ 9 ∷ 9 ∷ 9 ∷ 9 ∷ 9 ∷ 9 ∷ 9 ∷ 9 ∷ 9 ∷ 9 ∷ 9 ∷ 9 ∷ 9 ∷ 9 ∷ 9 ∷ 9 ∷ 9 ∷ 9 ∷ 9 ∷ 9 ∷ 9 ∷ 9 ∷ [])) (written 26 (0 ∷ 0 ∷ 0 ∷ 1 ∷ 0 ∷ 0 ∷ 0 ∷ 0 ∷ 0 ∷ 0 ∷ 0 ∷ 4 ∷ 0 ∷ 0 ∷ 0 ∷ 0 ∷ 0 ∷ 0 ∷ 0 ∷ 0 ∷ 1 ∷ 0 ∷ 0 ∷ 0 ∷ 4 ∷ 5 ∷ 9 ∷ 9 ∷ 9 ∷ 9 ∷ 9 ∷ 9 ∷ 9 ∷ 9 ∷ 9 ∷ [])) ∷  -- room 35, 26 bytes
    asked (Reports text (77 ∷ 65 ∷ 65 ∷ 66 ∷ 77 ∷ 65 ∷ []) (9 ∷ 9 ∷ 9 ∷ 9 ∷ 9 ∷ 9 ∷ 9 ∷ 9 ∷ 9 ∷ 9 ∷ 9 ∷ 9 ∷ 9 ∷ 9 ∷ 9 ∷ 9 ∷ 9 ∷ 9 ∷ 9 ∷ 9 ∷ 9 ∷ 9 ∷ 9 ∷ 9 ∷ 9 ∷ 9 ∷ 9 ∷ 9 ∷ 9 ∷ 9 ∷ 9 ∷ 9 ∷ 9 ∷ 9 ∷ [])) (refused 3 0 (9 ∷ 9 ∷ 9 ∷ 9 ∷ 9 ∷ 9 ∷ 9 ∷ 9 ∷ 9 ∷ 9 ∷ 9 ∷ 9 ∷ 9 ∷ 9 ∷ 9 ∷ 9 ∷ 9 ∷ 9 ∷ 9 ∷ 9 ∷ 9 ∷ 9 ∷ 9 ∷ 9 ∷ 9 ∷ 9 ∷ 9 ∷ 9 ∷ 9 ∷ 9 ∷ 9 ∷ 9 ∷ 9 ∷ 9 ∷ [])) ∷  -- `MAABMA`, not whole units, room 34: 3
    asked (Reports text (77 ∷ 65 ∷ 65 ∷ 66 ∷ 77 ∷ 65 ∷ []) (9 ∷ 9 ∷ 9 ∷ 9 ∷ 9 ∷ 9 ∷ 9 ∷ 9 ∷ 9 ∷ 9 ∷ 9 ∷ 9 ∷ 9 ∷ 9 ∷ 9 ∷ 9 ∷ 9 ∷ 9 ∷ 9 ∷ 9 ∷ 9 ∷ 9 ∷ 9 ∷ 9 ∷ 9 ∷ 9 ∷ 9 ∷ 9 ∷ 9 ∷ 9 ∷ 9 ∷ 9 ∷ 9 ∷ 9 ∷ 9 ∷ [])) (written 26 (0 ∷ 0 ∷ 0 ∷ 1 ∷ 0 ∷ 0 ∷ 0 ∷ 0 ∷ 0 ∷ 0 ∷ 0 ∷ 4 ∷ 0 ∷ 0 ∷ 0 ∷ 0 ∷ 0 ∷ 0 ∷ 0 ∷ 0 ∷ 1 ∷ 0 ∷ 0 ∷ 0 ∷ 4 ∷ 4 ∷ 9 ∷ 9 ∷ 9 ∷ 9 ∷ 9 ∷ 9 ∷ 9 ∷ 9 ∷ 9 ∷ [])) ∷  -- room 35, 26 bytes
    asked (Reports binary (248 ∷ 0 ∷ 1 ∷ 208 ∷ 0 ∷ 0 ∷ 48 ∷ 0 ∷ 1 ∷ []) (9 ∷ 9 ∷ 9 ∷ 9 ∷ 9 ∷ 9 ∷ 9 ∷ 9 ∷ 9 ∷ 9 ∷ 9 ∷ 9 ∷ 9 ∷ 9 ∷ 9 ∷ 9 ∷ 9 ∷ 9 ∷ 9 ∷ 9 ∷ 9 ∷ 9 ∷ 9 ∷ 9 ∷ 9 ∷ 9 ∷ 9 ∷ 9 ∷ 9 ∷ 9 ∷ 9 ∷ 9 ∷ 9 ∷ 9 ∷ 9 ∷ 9 ∷ 9 ∷ 9 ∷ 9 ∷ 9 ∷ 9 ∷ 9 ∷ 9 ∷ 9 ∷ 9 ∷ 9 ∷ 9 ∷ 9 ∷ 9 ∷ 9 ∷ 9 ∷ 9 ∷ [])) (refused 3 0 (9 ∷ 9 ∷ 9 ∷ 9 ∷ 9 ∷ 9 ∷ 9 ∷ 9 ∷ 9 ∷ 9 ∷ 9 ∷ 9 ∷ 9 ∷ 9 ∷ 9 ∷ 9 ∷ 9 ∷ 9 ∷ 9 ∷ 9 ∷ 9 ∷ 9 ∷ 9 ∷ 9 ∷ 9 ∷ 9 ∷ 9 ∷ 9 ∷ 9 ∷ 9 ∷ 9 ∷ 9 ∷ 9 ∷ 9 ∷ 9 ∷ 9 ∷ 9 ∷ 9 ∷ 9 ∷ 9 ∷ 9 ∷ 9 ∷ 9 ∷ 9 ∷ 9 ∷ 9 ∷ 9 ∷ 9 ∷ 9 ∷ 9 ∷ 9 ∷ 9 ∷ [])) ∷  -- `-AAB0AAAMAAB` in B, room 52: 3
    asked (Reports binary (248 ∷ 0 ∷ 1 ∷ 208 ∷ 0 ∷ 0 ∷ 48 ∷ 0 ∷ 1 ∷ []) (9 ∷ 9 ∷ 9 ∷ 9 ∷ 9 ∷ 9 ∷ 9 ∷ 9 ∷ 9 ∷ 9 ∷ 9 ∷ 9 ∷ 9 ∷ 9 ∷ 9 ∷ 9 ∷ 9 ∷ 9 ∷ 9 ∷ 9 ∷ 9 ∷ 9 ∷ 9 ∷ 9 ∷ 9 ∷ 9 ∷ 9 ∷ 9 ∷ 9 ∷ 9 ∷ 9 ∷ 9 ∷ 9 ∷ 9 ∷ 9 ∷ 9 ∷ 9 ∷ 9 ∷ 9 ∷ 9 ∷ 9 ∷ 9 ∷ 9 ∷ 9 ∷ 9 ∷ 9 ∷ 9 ∷ 9 ∷ 9 ∷ 9 ∷ 9 ∷ 9 ∷ 9 ∷ [])) (written 39 (0 ∷ 0 ∷ 0 ∷ 2 ∷ 0 ∷ 0 ∷ 0 ∷ 0 ∷ 0 ∷ 0 ∷ 0 ∷ 6 ∷ 4 ∷ 0 ∷ 0 ∷ 0 ∷ 6 ∷ 0 ∷ 0 ∷ 0 ∷ 3 ∷ 0 ∷ 0 ∷ 0 ∷ 0 ∷ 1 ∷ 0 ∷ 0 ∷ 0 ∷ 0 ∷ 4 ∷ 0 ∷ 0 ∷ 0 ∷ 3 ∷ 0 ∷ 0 ∷ 0 ∷ 0 ∷ 9 ∷ 9 ∷ 9 ∷ 9 ∷ 9 ∷ 9 ∷ 9 ∷ 9 ∷ 9 ∷ 9 ∷ 9 ∷ 9 ∷ 9 ∷ 9 ∷ [])) ∷  -- room 53, 39 bytes
    asked (ReadText (77 ∷ 65 ∷ 65 ∷ 66 ∷ []) 4 (9 ∷ [])) (refused 4 4 (9 ∷ [])) ∷  -- `MAAB` at 4, room 1: 4 at the end
    asked (ReadText (77 ∷ 65 ∷ 65 ∷ 66 ∷ []) 9 (9 ∷ [])) (refused 4 9 (9 ∷ [])) ∷  -- `MAAB` at 9, room 1: 4 past the end, with the offset for its place
    asked (ReadText (77 ∷ 65 ∷ 65 ∷ 66 ∷ 77 ∷ 33 ∷ 65 ∷ 66 ∷ []) 4 (9 ∷ [])) (refused 5 5 (9 ∷ [])) ∷  -- `MAABM!AB` at 4, room 1: framing, places counted from the stream's start
    asked (ReadText (33 ∷ 65 ∷ 65 ∷ 33 ∷ []) 0 []) (refused 5 0 []) ∷  -- `!AA!` at 0, room 0: 5 (its first bad character)
    asked (ReadText (77 ∷ 33 ∷ 33 ∷ 66 ∷ []) 0 []) (refused 5 1 []) ∷  -- `M!!B` at 0, room 0
    asked (ReadText (77 ∷ 65 ∷ 33 ∷ 33 ∷ []) 0 []) (refused 5 2 []) ∷  -- `MA!!` at 0, room 0
    asked (ReadText (77 ∷ 65 ∷ 65 ∷ 33 ∷ []) 0 []) (refused 5 3 []) ∷  -- `MAA!` at 0, room 0
    asked (ReadText (55 ∷ 65 ∷ 65 ∷ 66 ∷ 65 ∷ 65 ∷ 33 ∷ 33 ∷ []) 0 []) (refused 5 6 []) ∷  -- `7AABAA!!` at 0, room 0: 5 of the second unit
    asked (ReadText (98 ∷ 65 ∷ 65 ∷ 65 ∷ []) 0 []) (refused 6 0 []) ∷  -- `bAAA` at 0, room 0: 6, then 3
    asked (ReadText (45 ∷ 65 ∷ 65 ∷ 66 ∷ []) 0 (9 ∷ [])) (refused 4 0 (9 ∷ [])) ∷  -- `-AAB` at 0, room 1: framing, then 14
    asked (ReadText (45 ∷ 65 ∷ 65 ∷ 66 ∷ 77 ∷ 81 ∷ 65 ∷ 65 ∷ []) 0 (9 ∷ [])) (refused 14 0 (9 ∷ [])) ∷  -- `-AABMQAA` at 0, room 1: 14, whatever is in the group
    asked (ReadText (77 ∷ 65 ∷ 65 ∷ 66 ∷ 45 ∷ 75 ∷ 65 ∷ 66 ∷ 33 ∷ 33 ∷ 33 ∷ 33 ∷ []) 4 (9 ∷ [])) (refused 14 4 (9 ∷ [])) ∷  -- `MAAB-KAB!!!!` at 4, room 1: 14, then 5
    asked (ReadText (45 ∷ 95 ∷ 65 ∷ 65 ∷ 65 ∷ 66 ∷ 65 ∷ 65 ∷ []) 0 (9 ∷ [])) (refused 14 0 (9 ∷ [])) ∷  -- `-_AAABAA` at 0, room 1: never 7
    asked (ReadText (48 ∷ 72 ∷ 69 ∷ 65 ∷ 65 ∷ 33 ∷ 65 ∷ 65 ∷ []) 0 []) (refused 5 5 []) ∷  -- `0HEAA!AA` at 0, room 0: 5 behind the header, then 8, then 3
    asked (ReadText (77 ∷ 65 ∷ 65 ∷ 66 ∷ 77 ∷ 43 ∷ 65 ∷ 66 ∷ []) 4 (9 ∷ [])) (refused 19 5 (9 ∷ [])) ∷  -- `MAABM+AB` at 4, room 1: 19 in framing
    asked (ReadText (43 ∷ 65 ∷ 65 ∷ 33 ∷ []) 0 []) (refused 19 0 []) ∷  -- `+AA!` at 0, room 0: its first bad character
    asked (ReadText (33 ∷ 65 ∷ 65 ∷ 43 ∷ []) 0 []) (refused 5 0 []) ∷  -- `!AA+` at 0, room 0
    asked (ReadText (55 ∷ 65 ∷ 65 ∷ 66 ∷ 65 ∷ 65 ∷ 47 ∷ 33 ∷ []) 0 []) (refused 19 6 []) ∷  -- `7AABAA/!` at 0, room 0: 19 of the second unit
    asked (ReadText (48 ∷ 72 ∷ 69 ∷ 65 ∷ 65 ∷ 61 ∷ 65 ∷ 65 ∷ []) 0 []) (refused 19 5 []) ∷  -- `0HEAA=AA` at 0, room 0: 19 behind the header, then 8, then 3
    asked (ReadText (53 ∷ 66 ∷ 65 ∷ 65 ∷ []) 0 []) (refused 9 0 []) ∷  -- `5BAA` at 0, room 0: 9
    asked (ReadText (77 ∷ 65 ∷ 65 ∷ 66 ∷ 77 ∷ 81 ∷ 65 ∷ 65 ∷ []) 4 []) (refused 8 4 []) ∷  -- `MAABMQAA` at 4, room 0: 8, then 3
    asked (ReadText (77 ∷ 65 ∷ 65 ∷ 66 ∷ 48 ∷ 74 ∷ 65 ∷ 65 ∷ []) 4 []) (refused 10 4 []) ∷  -- `MAAB0JAA` at 4, room 0: 10
    asked (ReadText (77 ∷ 65 ∷ 65 ∷ 66 ∷ []) 0 (9 ∷ 9 ∷ 9 ∷ [])) (read (record { code = (C.Fixed 1 77); size = 1; start = binary_offset 1; raw = 2; text = 0; tags = 0 }) (0 ∷ 0 ∷ 0 ∷ 0 ∷ 0 ∷ 0 ∷ 0 ∷ 0 ∷ 0 ∷ 0 ∷ 0 ∷ []) (0 ∷ 1 ∷ 9 ∷ [])) ∷  -- `MAAB` at 0, room 3: raw 00 01, bytes behind it stay
    asked (ReadText (65 ∷ 77 ∷ 65 ∷ 65 ∷ 66 ∷ []) 1 (9 ∷ 9 ∷ [])) (read (record { code = (C.Fixed 1 77); size = 1; start = binary_offset 1; raw = 2; text = 0; tags = 0 }) (0 ∷ 0 ∷ 0 ∷ 0 ∷ 0 ∷ 0 ∷ 0 ∷ 0 ∷ 0 ∷ 0 ∷ 0 ∷ []) (0 ∷ 1 ∷ [])) ∷  -- `AMAAB` at 1, room 2: any offset
    asked (ReadText (86 ∷ 65 ∷ 66 ∷ 104 ∷ []) 0 (9 ∷ [])) (read (record { code = (C.Fixed 1 86); size = 1; start = binary_offset 2; raw = 1; text = 0; tags = 0 }) (0 ∷ 0 ∷ 0 ∷ 0 ∷ 0 ∷ 0 ∷ 0 ∷ 0 ∷ 0 ∷ 0 ∷ 0 ∷ []) (97 ∷ [])) ∷  -- `VABh` at 0, room 1: one zero lead byte more
    asked (ReadText (49 ∷ 65 ∷ 65 ∷ 78 ∷ 65 ∷ 66 ∷ 67 ∷ 68 ∷ 69 ∷ 70 ∷ 71 ∷ 72 ∷ []) 0 []) (read (record { code = (C.Fixed 4 78); size = 3; start = binary_offset 9; raw = 0; text = 0; tags = 8 }) (65 ∷ 66 ∷ 67 ∷ 68 ∷ 69 ∷ 70 ∷ 71 ∷ 72 ∷ 0 ∷ 0 ∷ 0 ∷ []) []) ∷  -- `1AANABCDEFGH` at 0, room 0: eight tag characters
    asked (ReadText (53 ∷ 66 ∷ 65 ∷ 66 ∷ 65 ∷ 71 ∷ 104 ∷ 112 ∷ []) 0 (9 ∷ 9 ∷ [])) (read (record { code = (C.Small 66); size = 2; start = binary_offset 4; raw = 2; text = 0; tags = 0 }) (0 ∷ 0 ∷ 0 ∷ 0 ∷ 0 ∷ 0 ∷ 0 ∷ 0 ∷ 0 ∷ 0 ∷ 0 ∷ []) (104 ∷ 105 ∷ [])) ∷  -- `5BABAGhp` at 0, room 2: small
    asked (ReadText (56 ∷ 65 ∷ 65 ∷ 66 ∷ 65 ∷ 65 ∷ 65 ∷ 66 ∷ 65 ∷ 71 ∷ 104 ∷ 112 ∷ []) 0 []) (refused 18 0 []) ∷  -- `8AABAAABAGhp` at 0, room 0: large, 18, then 3
    asked (ReadText (45 ∷ 45 ∷ 65 ∷ 65 ∷ 65 ∷ 65 ∷ 65 ∷ 65 ∷ []) 0 (9 ∷ [])) (refused 14 0 (9 ∷ [])) ∷  -- `--AAAAAA` at 0, room 1: 14, then 18
    asked (ReadBinary (48 ∷ 0 ∷ 1 ∷ []) 3 (9 ∷ [])) (refused 4 3 (9 ∷ [])) ∷  -- `MAAB` in B at 3: 4 at the end
    asked (ReadBinary (48 ∷ 0 ∷ 1 ∷ 49 ∷ 0 ∷ 0 ∷ []) 3 (9 ∷ [])) (refused 8 3 (9 ∷ [])) ∷  -- `MAABMQAA` in B at 3: places in bytes
    asked (ReadBinary (248 ∷ 0 ∷ 1 ∷ 49 ∷ 0 ∷ 0 ∷ []) 0 (9 ∷ [])) (refused 14 0 (9 ∷ [])) ∷  -- `-AABMQAA` in B at 0: 14
    asked (ReadBinary (251 ∷ 240 ∷ 0 ∷ 0 ∷ 16 ∷ 0 ∷ []) 0 (9 ∷ [])) (refused 14 0 (9 ∷ [])) ∷  -- `-_AAABAA` in B at 0: never 7
    asked (ReadBinary (48 ∷ 0 ∷ 1 ∷ 48 ∷ 255 ∷ 255 ∷ []) 3 (9 ∷ [])) (read_part (record { code = (C.Fixed 1 77); size = 1; start = binary_offset 1; raw = 2; text = 0; tags = 0 }) (0 ∷ 0 ∷ 0 ∷ 0 ∷ 0 ∷ 0 ∷ 0 ∷ 0 ∷ 0 ∷ 0 ∷ 0 ∷ []) (9 ∷ []) (255 ∷ 255 ∷ [])) ∷  -- `MAABMP__` in B at 3: the part where it lies
    asked (ReadBinary (208 ∷ 159 ∷ 192 ∷ []) 0 (9 ∷ [])) (read_part (record { code = (C.Fixed 2 74); size = 1; start = binary_offset 3; raw = 0; text = 0; tags = 1 }) (65 ∷ 0 ∷ 0 ∷ 0 ∷ 0 ∷ 0 ∷ 0 ∷ 0 ∷ 0 ∷ 0 ∷ 0 ∷ []) (9 ∷ []) []) ∷  -- `0J_A` in B at 0: an empty part
    asked (ReadBinary (244 ∷ 0 ∷ 1 ∷ 0 ∷ 0 ∷ 1 ∷ 0 ∷ 0 ∷ 97 ∷ []) 0 (9 ∷ [])) (refused 18 0 (9 ∷ [])) ∷  -- `9AABAAABAABh` in B at 0: 18
    asked (WriteText (C.Fixed 3 65) (33 ∷ 33 ∷ 33 ∷ 33 ∷ 33 ∷ 33 ∷ 33 ∷ 33 ∷ 33 ∷ 33 ∷ 33 ∷ []) 12 [] []) (refused 6 0 []) ∷  -- no code of three characters: 6, then 12
    asked (WriteText (C.Fixed 1 98) (33 ∷ 33 ∷ 33 ∷ 33 ∷ 33 ∷ 33 ∷ 33 ∷ 33 ∷ 33 ∷ 33 ∷ 33 ∷ []) 0 [] []) (refused 6 0 []) ∷  -- `b`: 6
    asked (WriteText (C.Small 71) (33 ∷ 33 ∷ 33 ∷ 33 ∷ 33 ∷ 33 ∷ 33 ∷ 33 ∷ 33 ∷ 33 ∷ 33 ∷ []) 0 [] []) (refused 6 0 []) ∷  -- type G: 6
    asked (WriteText (C.Fixed 1 88) (33 ∷ 33 ∷ 33 ∷ 33 ∷ 33 ∷ 33 ∷ 33 ∷ 33 ∷ 33 ∷ 33 ∷ 33 ∷ []) 2 [] []) (refused 12 0 []) ∷  -- `X` with two tag characters: 12, then 5
    asked (WriteText (C.Fixed 1 88) (65 ∷ 66 ∷ 67 ∷ 33 ∷ 33 ∷ 33 ∷ 33 ∷ 33 ∷ 33 ∷ 33 ∷ 33 ∷ []) 3 (1 ∷ []) (9 ∷ 9 ∷ 9 ∷ 9 ∷ [])) (refused 12 0 (9 ∷ 9 ∷ 9 ∷ 9 ∷ [])) ∷  -- tags take no raw: 12
    asked (WriteText (C.Fixed 1 77) (65 ∷ 33 ∷ 33 ∷ 33 ∷ 33 ∷ 33 ∷ 33 ∷ 33 ∷ 33 ∷ 33 ∷ 33 ∷ []) 1 (0 ∷ 1 ∷ []) (9 ∷ 9 ∷ 9 ∷ 9 ∷ [])) (refused 12 0 (9 ∷ 9 ∷ 9 ∷ 9 ∷ [])) ∷  -- other codes no tag characters: 12
    asked (WriteText (C.Fixed 1 77) (33 ∷ 33 ∷ 33 ∷ 33 ∷ 33 ∷ 33 ∷ 33 ∷ 33 ∷ 33 ∷ 33 ∷ 33 ∷ []) 12 (0 ∷ 1 ∷ []) (9 ∷ 9 ∷ 9 ∷ 9 ∷ [])) (refused 12 0 (9 ∷ 9 ∷ 9 ∷ 9 ∷ [])) ∷  -- a number above 11 is 12
    asked (WriteText (C.Fixed 1 77) (33 ∷ 33 ∷ 33 ∷ 33 ∷ 33 ∷ 33 ∷ 33 ∷ 33 ∷ 33 ∷ 33 ∷ 33 ∷ []) 0 (0 ∷ 1 ∷ 2 ∷ []) []) (refused 12 0 []) ∷  -- three bytes for `M`: 12, then 3
    asked (WriteText (C.Fixed 1 88) (65 ∷ 33 ∷ 65 ∷ 33 ∷ 33 ∷ 33 ∷ 33 ∷ 33 ∷ 33 ∷ 33 ∷ 33 ∷ []) 3 [] []) (refused 5 1 []) ∷  -- 5 at the index among the tag characters, then 3
    asked (WriteText (C.Fixed 1 88) (65 ∷ 43 ∷ 33 ∷ 33 ∷ 33 ∷ 33 ∷ 33 ∷ 33 ∷ 33 ∷ 33 ∷ 33 ∷ []) 3 [] []) (refused 19 1 []) ∷  -- 19 at the index among the tag characters, then 3
    asked (WriteText (C.Fixed 1 88) (65 ∷ 33 ∷ 43 ∷ 33 ∷ 33 ∷ 33 ∷ 33 ∷ 33 ∷ 33 ∷ 33 ∷ 33 ∷ []) 3 [] []) (refused 5 1 []) ∷  -- the first bad character, of whichever kind
    asked (WriteText (C.Fixed 1 88) (43 ∷ 43 ∷ 43 ∷ 33 ∷ 33 ∷ 33 ∷ 33 ∷ 33 ∷ 33 ∷ 33 ∷ 33 ∷ []) 2 [] []) (refused 12 0 []) ∷  -- 12, then 19
    asked (WriteText (C.Fixed 1 43) (43 ∷ 43 ∷ 43 ∷ 33 ∷ 33 ∷ 33 ∷ 33 ∷ 33 ∷ 33 ∷ 33 ∷ 33 ∷ []) 3 [] []) (refused 6 0 []) ∷  -- a code named by `+` is no primitive's: 6
    asked (WriteText (C.Fixed 1 88) (65 ∷ 66 ∷ 67 ∷ 43 ∷ 47 ∷ 61 ∷ 33 ∷ 33 ∷ 33 ∷ 33 ∷ 33 ∷ []) 3 [] (9 ∷ 9 ∷ 9 ∷ 9 ∷ [])) (written 4 (88 ∷ 65 ∷ 66 ∷ 67 ∷ [])) ∷  -- the places behind that number are ignored
    asked (WriteText (C.Fixed 1 77) (33 ∷ 33 ∷ 33 ∷ 33 ∷ 33 ∷ 33 ∷ 33 ∷ 33 ∷ 33 ∷ 33 ∷ 33 ∷ []) 0 (0 ∷ 1 ∷ []) (9 ∷ 9 ∷ 9 ∷ [])) (refused 3 0 (9 ∷ 9 ∷ 9 ∷ [])) ∷  -- 3
    asked (WriteText (C.Fixed 1 77) (33 ∷ 33 ∷ 33 ∷ 33 ∷ 33 ∷ 33 ∷ 33 ∷ 33 ∷ 33 ∷ 33 ∷ 33 ∷ []) 0 (0 ∷ 1 ∷ []) (9 ∷ 9 ∷ 9 ∷ 9 ∷ 9 ∷ [])) (written 4 (77 ∷ 65 ∷ 65 ∷ 66 ∷ 9 ∷ [])) ∷  -- `MAAB`, bytes behind it stay
    asked (WriteText (C.Fixed 1 88) (65 ∷ 66 ∷ 67 ∷ 33 ∷ 33 ∷ 33 ∷ 33 ∷ 33 ∷ 33 ∷ 33 ∷ 33 ∷ []) 3 [] (9 ∷ 9 ∷ 9 ∷ 9 ∷ [])) (written 4 (88 ∷ 65 ∷ 66 ∷ 67 ∷ [])) ∷  -- the places behind that number are ignored
    asked (WriteText (C.Fixed 2 74) (65 ∷ 33 ∷ 33 ∷ 33 ∷ 33 ∷ 33 ∷ 33 ∷ 33 ∷ 33 ∷ 33 ∷ 33 ∷ []) 1 [] (9 ∷ 9 ∷ 9 ∷ 9 ∷ [])) (written 4 (48 ∷ 74 ∷ 95 ∷ 65 ∷ [])) ∷  -- `0J_A`
    asked (WriteText (C.Fixed 1 86) (33 ∷ 33 ∷ 33 ∷ 33 ∷ 33 ∷ 33 ∷ 33 ∷ 33 ∷ 33 ∷ 33 ∷ 33 ∷ []) 0 (97 ∷ []) (9 ∷ 9 ∷ 9 ∷ 9 ∷ [])) (written 4 (86 ∷ 65 ∷ 66 ∷ 104 ∷ [])) ∷  -- `VABh`
    asked (WriteText (C.Fixed 2 72) (33 ∷ 33 ∷ 33 ∷ 33 ∷ 33 ∷ 33 ∷ 33 ∷ 33 ∷ 33 ∷ 33 ∷ 33 ∷ []) 0 (255 ∷ 255 ∷ 255 ∷ 255 ∷ []) (9 ∷ 9 ∷ 9 ∷ 9 ∷ 9 ∷ 9 ∷ 9 ∷ 9 ∷ [])) (written 8 (48 ∷ 72 ∷ 68 ∷ 95 ∷ 95 ∷ 95 ∷ 95 ∷ 95 ∷ [])) ∷  -- `0HD_____`
    asked (WriteText (C.Fixed 4 77) (33 ∷ 33 ∷ 33 ∷ 33 ∷ 33 ∷ 33 ∷ 33 ∷ 33 ∷ 33 ∷ 33 ∷ 33 ∷ []) 0 [] (9 ∷ 9 ∷ 9 ∷ 9 ∷ [])) (written 4 (49 ∷ 65 ∷ 65 ∷ 77 ∷ [])) ∷  -- `1AAM`
    asked (WriteText (C.Small 66) (33 ∷ 33 ∷ 33 ∷ 33 ∷ 33 ∷ 33 ∷ 33 ∷ 33 ∷ 33 ∷ 33 ∷ 33 ∷ []) 0 [] (9 ∷ 9 ∷ 9 ∷ 9 ∷ [])) (written 4 (52 ∷ 66 ∷ 65 ∷ 65 ∷ [])) ∷  -- `4BAA`: the lead follows from the raw length
    asked (WriteText (C.Small 66) (33 ∷ 33 ∷ 33 ∷ 33 ∷ 33 ∷ 33 ∷ 33 ∷ 33 ∷ 33 ∷ 33 ∷ 33 ∷ []) 0 (0 ∷ 104 ∷ 105 ∷ []) (9 ∷ 9 ∷ 9 ∷ 9 ∷ 9 ∷ 9 ∷ 9 ∷ 9 ∷ [])) (written 8 (52 ∷ 66 ∷ 65 ∷ 66 ∷ 65 ∷ 71 ∷ 104 ∷ 112 ∷ [])) ∷  -- `4BABAGhp`
    asked (WriteText (C.Small 66) (33 ∷ 33 ∷ 33 ∷ 33 ∷ 33 ∷ 33 ∷ 33 ∷ 33 ∷ 33 ∷ 33 ∷ 33 ∷ []) 0 (97 ∷ []) (9 ∷ 9 ∷ 9 ∷ 9 ∷ 9 ∷ 9 ∷ 9 ∷ 9 ∷ [])) (written 8 (54 ∷ 66 ∷ 65 ∷ 66 ∷ 65 ∷ 65 ∷ 66 ∷ 104 ∷ [])) ∷  -- `6BABAABh`
    asked (WriteText (C.Large 71) (33 ∷ 33 ∷ 33 ∷ 33 ∷ 33 ∷ 33 ∷ 33 ∷ 33 ∷ 33 ∷ 33 ∷ 33 ∷ []) 0 (104 ∷ 105 ∷ []) (9 ∷ 9 ∷ 9 ∷ 9 ∷ 9 ∷ 9 ∷ 9 ∷ 9 ∷ 9 ∷ 9 ∷ 9 ∷ 9 ∷ [])) (refused 6 0 (9 ∷ 9 ∷ 9 ∷ 9 ∷ 9 ∷ 9 ∷ 9 ∷ 9 ∷ 9 ∷ 9 ∷ 9 ∷ 9 ∷ [])) ∷  -- large of type G: 6, then 18
    asked (WriteText (C.Large 72) (33 ∷ 33 ∷ 33 ∷ 33 ∷ 33 ∷ 33 ∷ 33 ∷ 33 ∷ 33 ∷ 33 ∷ 33 ∷ []) 1 (104 ∷ 105 ∷ []) (9 ∷ 9 ∷ 9 ∷ 9 ∷ 9 ∷ 9 ∷ 9 ∷ 9 ∷ 9 ∷ 9 ∷ 9 ∷ 9 ∷ [])) (refused 12 0 (9 ∷ 9 ∷ 9 ∷ 9 ∷ 9 ∷ 9 ∷ 9 ∷ 9 ∷ 9 ∷ 9 ∷ 9 ∷ 9 ∷ [])) ∷  -- large with a tag character: 12, then 18
    asked (WriteText (C.Large 72) (33 ∷ 33 ∷ 33 ∷ 33 ∷ 33 ∷ 33 ∷ 33 ∷ 33 ∷ 33 ∷ 33 ∷ 33 ∷ []) 0 [] []) (refused 18 0 []) ∷  -- 18, then 3
    asked (WriteBinary (C.Fixed 1 77) (33 ∷ 33 ∷ 33 ∷ 33 ∷ 33 ∷ 33 ∷ 33 ∷ 33 ∷ 33 ∷ 33 ∷ 33 ∷ []) 0 (0 ∷ 1 ∷ []) (9 ∷ 9 ∷ [])) (refused 3 0 (9 ∷ 9 ∷ [])) ∷  -- 3 in B
    asked (WriteBinary (C.Fixed 1 88) (65 ∷ 33 ∷ 65 ∷ 33 ∷ 33 ∷ 33 ∷ 33 ∷ 33 ∷ 33 ∷ 33 ∷ 33 ∷ []) 3 [] []) (refused 5 1 []) ∷  -- 5, then 3, in B
    asked (WriteBinary (C.Fixed 1 88) (65 ∷ 47 ∷ 65 ∷ 33 ∷ 33 ∷ 33 ∷ 33 ∷ 33 ∷ 33 ∷ 33 ∷ 33 ∷ []) 3 [] []) (refused 19 1 []) ∷  -- 19, then 3, in B
    asked (WriteBinary (C.Large 66) (33 ∷ 33 ∷ 33 ∷ 33 ∷ 33 ∷ 33 ∷ 33 ∷ 33 ∷ 33 ∷ 33 ∷ 33 ∷ []) 0 (97 ∷ []) (9 ∷ 9 ∷ 9 ∷ 9 ∷ 9 ∷ 9 ∷ 9 ∷ 9 ∷ [])) (refused 18 0 (9 ∷ 9 ∷ 9 ∷ 9 ∷ 9 ∷ 9 ∷ 9 ∷ 9 ∷ [])) ∷  -- 18, then 3, in B
    -- 02 c: "Reading and writing such text gives the characters back .. Characters are copied out in both forms, with 3 when room is short"
    asked (ReadText (52 ∷ 65 ∷ 65 ∷ 68 ∷ 65 ∷ 45 ∷ 97 ∷ 45 ∷ 112 ∷ 101 ∷ 114 ∷ 115 ∷ 111 ∷ 110 ∷ 97 ∷ 108 ∷ []) 0 (9 ∷ 9 ∷ 9 ∷ 9 ∷ 9 ∷ 9 ∷ 9 ∷ 9 ∷ 9 ∷ 9 ∷ 9 ∷ [])) (read (record { code = (C.Small 65); size = 4; start = binary_offset 12; raw = 0; text = 11; tags = 0 }) (0 ∷ 0 ∷ 0 ∷ 0 ∷ 0 ∷ 0 ∷ 0 ∷ 0 ∷ 0 ∷ 0 ∷ 0 ∷ []) (45 ∷ 97 ∷ 45 ∷ 112 ∷ 101 ∷ 114 ∷ 115 ∷ 111 ∷ 110 ∷ 97 ∷ 108 ∷ [])) ∷  -- `4AADA-a-personal`, room 11: the characters
    asked (ReadText (52 ∷ 65 ∷ 65 ∷ 68 ∷ 65 ∷ 45 ∷ 97 ∷ 45 ∷ 112 ∷ 101 ∷ 114 ∷ 115 ∷ 111 ∷ 110 ∷ 97 ∷ 108 ∷ []) 0 (9 ∷ 9 ∷ 9 ∷ 9 ∷ 9 ∷ 9 ∷ 9 ∷ 9 ∷ 9 ∷ 9 ∷ [])) (refused 3 0 (9 ∷ 9 ∷ 9 ∷ 9 ∷ 9 ∷ 9 ∷ 9 ∷ 9 ∷ 9 ∷ 9 ∷ [])) ∷  -- room 10: 3
    asked (ReadText (77 ∷ 65 ∷ 65 ∷ 66 ∷ 53 ∷ 65 ∷ 65 ∷ 66 ∷ 65 ∷ 65 ∷ 66 ∷ 67 ∷ []) 4 (9 ∷ 9 ∷ 9 ∷ [])) (read (record { code = (C.Small 65); size = 2; start = binary_offset 6; raw = 0; text = 2; tags = 0 }) (0 ∷ 0 ∷ 0 ∷ 0 ∷ 0 ∷ 0 ∷ 0 ∷ 0 ∷ 0 ∷ 0 ∷ 0 ∷ []) (66 ∷ 67 ∷ 9 ∷ [])) ∷  -- `MAAB5AABAABC` at 4, room 3: bytes behind it stay
    asked (ReadText (52 ∷ 65 ∷ 65 ∷ 65 ∷ []) 0 []) (read (record { code = (C.Small 65); size = 1; start = binary_offset 3; raw = 0; text = 0; tags = 0 }) (0 ∷ 0 ∷ 0 ∷ 0 ∷ 0 ∷ 0 ∷ 0 ∷ 0 ∷ 0 ∷ 0 ∷ 0 ∷ []) []) ∷  -- `4AAA`, no room: the empty text
    asked (ReadText (77 ∷ 65 ∷ 65 ∷ 66 ∷ 52 ∷ 65 ∷ 65 ∷ 66 ∷ 65 ∷ 65 ∷ 65 ∷ 65 ∷ []) 4 []) (refused 16 4 []) ∷  -- `MAAB4AABAAAA` at 4, no room: 16, then 3
    asked (ReadBinary (48 ∷ 0 ∷ 1 ∷ 224 ∷ 0 ∷ 1 ∷ 0 ∷ 0 ∷ 0 ∷ []) 3 []) (refused 16 3 []) ∷  -- `MAAB4AABAAAA` in B at 3, no room: 16, then 3
    asked (ReadBinary (48 ∷ 0 ∷ 1 ∷ []) 0 []) (read_part (record { code = (C.Fixed 1 77); size = 1; start = binary_offset 1; raw = 2; text = 0; tags = 0 }) (0 ∷ 0 ∷ 0 ∷ 0 ∷ 0 ∷ 0 ∷ 0 ∷ 0 ∷ 0 ∷ 0 ∷ 0 ∷ []) [] (0 ∷ 1 ∷ [])) ∷  -- `MAAB` in B, no room: none is asked for a raw value
    asked (WriteText (C.Small 65) (33 ∷ 33 ∷ 33 ∷ 33 ∷ 33 ∷ 33 ∷ 33 ∷ 33 ∷ 33 ∷ 33 ∷ 33 ∷ []) 0 (45 ∷ []) (9 ∷ 9 ∷ 9 ∷ 9 ∷ 9 ∷ 9 ∷ 9 ∷ 9 ∷ 9 ∷ [])) (written 8 (54 ∷ 65 ∷ 65 ∷ 66 ∷ 65 ∷ 65 ∷ 65 ∷ 45 ∷ 9 ∷ [])) ∷  -- `6AABAAA-`
    asked (WriteText (C.Small 65) (33 ∷ 33 ∷ 33 ∷ 33 ∷ 33 ∷ 33 ∷ 33 ∷ 33 ∷ 33 ∷ 33 ∷ 33 ∷ []) 0 (45 ∷ 97 ∷ 45 ∷ 112 ∷ 101 ∷ 114 ∷ 115 ∷ 111 ∷ 110 ∷ 97 ∷ 108 ∷ []) (9 ∷ 9 ∷ 9 ∷ 9 ∷ 9 ∷ 9 ∷ 9 ∷ 9 ∷ 9 ∷ 9 ∷ 9 ∷ 9 ∷ 9 ∷ 9 ∷ 9 ∷ 9 ∷ [])) (written 16 (52 ∷ 65 ∷ 65 ∷ 68 ∷ 65 ∷ 45 ∷ 97 ∷ 45 ∷ 112 ∷ 101 ∷ 114 ∷ 115 ∷ 111 ∷ 110 ∷ 97 ∷ 108 ∷ [])) ∷  -- `4AADA-a-personal`
    asked (WriteText (C.Small 65) (33 ∷ 33 ∷ 33 ∷ 33 ∷ 33 ∷ 33 ∷ 33 ∷ 33 ∷ 33 ∷ 33 ∷ 33 ∷ []) 0 (45 ∷ 52 ∷ 45 ∷ 53 ∷ []) (9 ∷ 9 ∷ 9 ∷ 9 ∷ 9 ∷ 9 ∷ 9 ∷ 9 ∷ [])) (written 8 (52 ∷ 65 ∷ 65 ∷ 66 ∷ 45 ∷ 52 ∷ 45 ∷ 53 ∷ [])) ∷  -- `4AAB-4-5`
    asked (WriteText (C.Small 65) (33 ∷ 33 ∷ 33 ∷ 33 ∷ 33 ∷ 33 ∷ 33 ∷ 33 ∷ 33 ∷ 33 ∷ 33 ∷ []) 0 (45 ∷ 52 ∷ 45 ∷ 53 ∷ 45 ∷ 108 ∷ 101 ∷ 103 ∷ 97 ∷ 108 ∷ 78 ∷ 97 ∷ 109 ∷ 101 ∷ []) (9 ∷ 9 ∷ 9 ∷ 9 ∷ 9 ∷ 9 ∷ 9 ∷ 9 ∷ 9 ∷ 9 ∷ 9 ∷ 9 ∷ 9 ∷ 9 ∷ 9 ∷ 9 ∷ 9 ∷ 9 ∷ 9 ∷ 9 ∷ [])) (written 20 (53 ∷ 65 ∷ 65 ∷ 69 ∷ 65 ∷ 65 ∷ 45 ∷ 52 ∷ 45 ∷ 53 ∷ 45 ∷ 108 ∷ 101 ∷ 103 ∷ 97 ∷ 108 ∷ 78 ∷ 97 ∷ 109 ∷ 101 ∷ [])) ∷  -- `5AAEAA-4-5-legalName`
    asked (WriteText (C.Small 65) (33 ∷ 33 ∷ 33 ∷ 33 ∷ 33 ∷ 33 ∷ 33 ∷ 33 ∷ 33 ∷ 33 ∷ 33 ∷ []) 0 (45 ∷ 97 ∷ 45 ∷ 112 ∷ 101 ∷ 114 ∷ 115 ∷ 111 ∷ 110 ∷ 97 ∷ 108 ∷ 45 ∷ 49 ∷ []) (9 ∷ 9 ∷ 9 ∷ 9 ∷ 9 ∷ 9 ∷ 9 ∷ 9 ∷ 9 ∷ 9 ∷ 9 ∷ 9 ∷ 9 ∷ 9 ∷ 9 ∷ 9 ∷ 9 ∷ 9 ∷ 9 ∷ 9 ∷ [])) (written 20 (54 ∷ 65 ∷ 65 ∷ 69 ∷ 65 ∷ 65 ∷ 65 ∷ 45 ∷ 97 ∷ 45 ∷ 112 ∷ 101 ∷ 114 ∷ 115 ∷ 111 ∷ 110 ∷ 97 ∷ 108 ∷ 45 ∷ 49 ∷ [])) ∷  -- `6AAEAAA-a-personal-1`
    asked (WriteText (C.Small 65) (33 ∷ 33 ∷ 33 ∷ 33 ∷ 33 ∷ 33 ∷ 33 ∷ 33 ∷ 33 ∷ 33 ∷ 33 ∷ []) 0 [] (9 ∷ 9 ∷ 9 ∷ 9 ∷ [])) (written 4 (52 ∷ 65 ∷ 65 ∷ 65 ∷ [])) ∷  -- `4AAA`
    asked (WriteText (C.Small 65) (33 ∷ 33 ∷ 33 ∷ 33 ∷ 33 ∷ 33 ∷ 33 ∷ 33 ∷ 33 ∷ 33 ∷ 33 ∷ []) 0 (66 ∷ 67 ∷ 68 ∷ []) (9 ∷ 9 ∷ 9 ∷ 9 ∷ 9 ∷ 9 ∷ 9 ∷ 9 ∷ [])) (written 8 (52 ∷ 65 ∷ 65 ∷ 66 ∷ 65 ∷ 66 ∷ 67 ∷ 68 ∷ [])) ∷  -- `4AABABCD`
    asked (WriteText (C.Small 65) (33 ∷ 33 ∷ 33 ∷ 33 ∷ 33 ∷ 33 ∷ 33 ∷ 33 ∷ 33 ∷ 33 ∷ 33 ∷ []) 1 (65 ∷ 33 ∷ []) []) (refused 12 0 []) ∷  -- a tag character: 12, then 5
    asked (WriteText (C.Large 65) (33 ∷ 33 ∷ 33 ∷ 33 ∷ 33 ∷ 33 ∷ 33 ∷ 33 ∷ 33 ∷ 33 ∷ 33 ∷ []) 0 (65 ∷ 33 ∷ []) []) (refused 18 0 []) ∷  -- 18, then 5
    asked (WriteText (C.Small 65) (33 ∷ 33 ∷ 33 ∷ 33 ∷ 33 ∷ 33 ∷ 33 ∷ 33 ∷ 33 ∷ 33 ∷ 33 ∷ []) 0 (45 ∷ 65 ∷ 61 ∷ 33 ∷ []) []) (refused 19 2 []) ∷  -- 19 at the index in the text, then 3
    asked (WriteText (C.Small 65) (33 ∷ 33 ∷ 33 ∷ 33 ∷ 33 ∷ 33 ∷ 33 ∷ 33 ∷ 33 ∷ 33 ∷ 33 ∷ []) 0 (45 ∷ 52 ∷ 45 ∷ 53 ∷ []) (9 ∷ 9 ∷ 9 ∷ 9 ∷ 9 ∷ 9 ∷ 9 ∷ [])) (refused 3 0 (9 ∷ 9 ∷ 9 ∷ 9 ∷ 9 ∷ 9 ∷ 9 ∷ [])) ∷  -- 3
    asked (WriteBinary (C.Small 65) (33 ∷ 33 ∷ 33 ∷ 33 ∷ 33 ∷ 33 ∷ 33 ∷ 33 ∷ 33 ∷ 33 ∷ 33 ∷ []) 0 (45 ∷ 52 ∷ 45 ∷ 53 ∷ []) (9 ∷ 9 ∷ 9 ∷ 9 ∷ 9 ∷ 9 ∷ 9 ∷ [])) (written 6 (224 ∷ 0 ∷ 1 ∷ 251 ∷ 143 ∷ 185 ∷ 9 ∷ [])) ∷  -- `4AAB-4-5` in B
    asked (WriteBinary (C.Small 65) (33 ∷ 33 ∷ 33 ∷ 33 ∷ 33 ∷ 33 ∷ 33 ∷ 33 ∷ 33 ∷ 33 ∷ 33 ∷ []) 0 (45 ∷ 52 ∷ 45 ∷ 53 ∷ []) (9 ∷ 9 ∷ 9 ∷ 9 ∷ 9 ∷ [])) (refused 3 0 (9 ∷ 9 ∷ 9 ∷ 9 ∷ 9 ∷ [])) ∷  -- 3 in B
    asked (WriteBinary (C.Small 65) (33 ∷ 33 ∷ 33 ∷ 33 ∷ 33 ∷ 33 ∷ 33 ∷ 33 ∷ 33 ∷ 33 ∷ 33 ∷ []) 0 (65 ∷ []) []) (refused 16 0 []) ∷  -- 16, then 3, in B
    []

pub calls-hold : Answers calls
unfolding answered calls
calls-hold =
    refl & refl & refl & refl & refl & refl & refl & refl & refl & refl & refl & refl & refl & refl & refl & refl &
    refl & refl & refl & refl & refl & refl & refl & refl & refl & refl & refl & refl & refl & refl & refl & refl &
    refl & refl & refl & refl & refl & refl & refl & refl & refl & refl & refl & refl & refl & refl & refl & refl &
    refl & refl & refl & refl & refl & refl & refl & refl & refl & refl & refl & refl & refl & refl & refl & refl &
    refl & refl & refl & refl & refl & refl & refl & refl & refl & refl & refl & refl & refl & refl & refl & refl &
    refl & refl & refl & refl & refl & refl & refl & refl & refl & refl & refl & refl & refl & refl & refl & refl &
    refl & refl & refl & refl & refl & refl & refl & refl & refl & refl & refl & refl & refl & refl & refl & refl &
    refl & refl & refl & refl & end
