-- 01, "Headers and extents": the code registry, and what a header's first unit says; by 02 a a second table for the items of `-K` and `-L`.
-- Letters are sextets: A is 0, a is 26. Assumes nothing.
use Rattle.std.specs.Prelude.{ℕ, ◌+◌, ◌-◌, ◌*◌, ◌/◌, List, [], ◌∷◌, Bool, true, false, eqb, ltb, leb}
use Rattle.base.specs.Pick.{pick}
use Rattle.format.specs.declared.CodeRow.{CodeRow}
use Rattle.format.specs.declared.IndexRow.{IndexRow}
use Rattle.format.specs.declared.Kind.{Kind}
use Rattle.format.specs.declared.Kind.TheVariants.{Fixed, Variable, Group, Genus, Indexed}
use Rattle.format.specs.declared.Opening.{Opening}
use Rattle.format.specs.declared.Opening.TheVariants.{Unknown, Short, Long, LargeVariable, LargeGroup, Version}

abbrev code_row : ℕ → ℕ → ℕ → ℕ → ℕ → ℕ → CodeRow
code_row chars pad letter size lead tag = record { chars = chars; letter = letter; size = size; pad = pad; lead = lead; tag = tag }

-- one letter: fixed, pad 1. Letter, full size in T, lead, tag characters
abbrev pub one_letter : ℕ → ℕ → ℕ → ℕ → CodeRow
one_letter = code_row 1 1

-- `0`+letter: fixed, pad 2
abbrev pub zero_letter : ℕ → ℕ → ℕ → ℕ → CodeRow
zero_letter = code_row 2 2

-- `1AA`+letter: fixed, pad 0
abbrev pub one_aa : ℕ → ℕ → ℕ → ℕ → CodeRow
one_aa = code_row 4 0

unfoldable pub codes : List CodeRow
codes =
    one_letter 0 44 0 0 ∷  -- A
    one_letter 1 44 0 0 ∷  -- B
    one_letter 2 44 0 0 ∷  -- C
    one_letter 3 44 0 0 ∷  -- D
    one_letter 4 44 0 0 ∷  -- E
    one_letter 5 44 0 0 ∷  -- F
    one_letter 6 44 0 0 ∷  -- G
    one_letter 7 44 0 0 ∷  -- H
    one_letter 8 44 0 0 ∷  -- I
    one_letter 9 44 0 0 ∷  -- J
    one_letter 10 76 0 0 ∷  -- K
    one_letter 11 76 0 0 ∷  -- L
    one_letter 12 4 0 0 ∷  -- M
    one_letter 13 12 0 0 ∷  -- N
    one_letter 14 44 0 0 ∷  -- O
    one_letter 15 124 0 0 ∷  -- P
    one_letter 16 44 0 0 ∷  -- Q
    one_letter 17 8 0 0 ∷  -- R
    one_letter 18 16 0 0 ∷  -- S
    one_letter 19 20 0 0 ∷  -- T
    one_letter 20 24 0 0 ∷  -- U
    one_letter 21 4 1 0 ∷  -- V, one zero lead byte more
    one_letter 22 4 0 0 ∷  -- W
    one_letter 23 4 0 3 ∷  -- X
    one_letter 24 8 0 7 ∷  -- Y
    one_letter 25 12 0 11 ∷  -- Z
    one_letter 26 44 0 0 ∷  -- a
    zero_letter 0 24 0 0 ∷  -- 0A
    zero_letter 1 88 0 0 ∷  -- 0B
    zero_letter 2 88 0 0 ∷  -- 0C
    zero_letter 3 88 0 0 ∷  -- 0D
    zero_letter 4 88 0 0 ∷  -- 0E
    zero_letter 5 88 0 0 ∷  -- 0F
    zero_letter 6 88 0 0 ∷  -- 0G
    zero_letter 7 8 0 0 ∷  -- 0H
    zero_letter 8 88 0 0 ∷  -- 0I
    zero_letter 9 4 0 1 ∷  -- 0J
    zero_letter 10 4 0 2 ∷  -- 0K
    zero_letter 11 8 0 5 ∷  -- 0L
    zero_letter 12 8 0 6 ∷  -- 0M
    zero_letter 13 12 0 9 ∷  -- 0N
    zero_letter 14 12 0 10 ∷  -- 0O
    one_aa 0 48 0 0 ∷  -- 1AAA
    one_aa 1 48 0 0 ∷  -- 1AAB
    one_aa 2 80 0 0 ∷  -- 1AAC
    one_aa 3 80 0 0 ∷  -- 1AAD
    one_aa 4 156 0 0 ∷  -- 1AAE
    one_aa 5 8 0 4 ∷  -- 1AAF
    one_aa 6 36 0 0 ∷  -- 1AAG
    one_aa 7 100 0 0 ∷  -- 1AAH
    one_aa 8 48 0 0 ∷  -- 1AAI
    one_aa 9 48 0 0 ∷  -- 1AAJ
    one_aa 10 4 0 0 ∷  -- 1AAK
    one_aa 11 4 0 0 ∷  -- 1AAL
    one_aa 12 4 0 0 ∷  -- 1AAM
    one_aa 13 12 0 8 ∷  -- 1AAN
    one_aa 14 4 0 0 ∷  -- 1AAO
    one_aa 15 4 0 0 ∷  -- 1AAP
    []

-- ---- what follows from a row

-- "A pad 1 code is followed by 2 zero bits, a pad 2 code by 4"; lead bytes are zero too; a tag has no pad bits
abbrev pub zero_bits_of : CodeRow → ℕ
zero_bits_of c = pick (eqb c.tag 0) (2 * c.pad + 8 * c.lead) 0

-- 1 where a `_` stands before the tag characters: in `0J` `0L` `0N`, whose characters leave one place free
abbrev pub prepad_of : CodeRow → ℕ
prepad_of c = pick (eqb c.tag 0) 0 (c.size - (c.chars + c.tag))

-- ---- letters

-- variable types: `A` `B` `C` `D` `E` `F` `H`
unfoldable pub is_type : ℕ → Bool
is_type t = pick (ltb t 6) true (eqb t 7)

-- variable type `A`, Base64 strings: 02 c: "text, not bytes"
unfoldable pub is_text : ℕ → Bool
is_text t = eqb t 0

-- group letters: `A`-`Z`, `a`, `b`, `c`
unfoldable pub is_group : ℕ → Bool
is_group l = ltb l 29

-- `-K` and `-L`. 02 a: "Read their contents by the Indexed Code Table"
unfoldable pub is_indexed : ℕ → Bool
is_indexed l = pick (eqb l 10) true (eqb l 11)

-- `-A` `-B` `-C`: a genus/version that is their first item must be `AAACAA`
unfoldable pub is_overrideable : ℕ → Bool
is_overrideable l = ltb l 3

-- ---- the first unit

-- a fixed code of so many characters, by its letter: everything else is unknown
unfoldable pub fixed_among : List CodeRow → ℕ → ℕ → Opening
fixed_among [] chars letter = Unknown
fixed_among (c ∷ cs) chars letter =
    pick (eqb c.chars chars) (pick (eqb c.letter letter) (Short (Fixed c) (c.size / 4)) (fixed_among cs chars letter))
    (fixed_among cs chars letter)

unfoldable pub fixed : ℕ → ℕ → Opening
fixed chars letter = fixed_among codes chars letter

-- by the first unit's four sextets; 52 is `0`, 62 is `-`, 63 is `_`
unfoldable pub opening : ℕ → ℕ → ℕ → ℕ → Opening
opening a b c d =
    pick (ltb a 52) (fixed 1 a)  -- one letter
    (pick (eqb a 52) (fixed 2 b)  -- `0`+letter
    (pick (eqb a 53) (pick (eqb b 0) (pick (eqb c 0) (fixed 4 d) Unknown) Unknown)  -- `1AA`+letter
    (pick (ltb a 56) Unknown  -- `2` `3`
    (pick (ltb a 59) (pick (is_type b) (Short (Variable b (a - 56) (c * 64 + d)) (1 + (c * 64 + d))) Unknown)  -- `4` `5` `6`, type, 2 digits n
    (pick (ltb a 62) (pick (eqb b 0) (pick (eqb c 0) (pick (is_type d) (LargeVariable d (a - 59)) Unknown) Unknown) Unknown)  -- `7` `8` `9`, `AA`, type
    (pick (eqb a 62)
    (pick (is_group b) (Short (Group b) (1 + (c * 64 + d)))  -- `-`, letter, 2 digits n
    (pick (eqb b 62) (pick (is_group c) (LargeGroup c d) Unknown)  -- `--`, letter, 5 digits n
    (pick (eqb b 63) Version Unknown)))  -- `-_GGGVVV`
    Unknown))))))  -- `_`

-- ---- 02 a: "the Indexed Code Table of source document 003: twelve codes, with index and ondex"

-- 003's columns: letter, and 1 where it says "current only". "Four zero pad bits stand before the raw bytes of `A` to `D` and `2A` to `2D`,
-- none in the others." `A#` to `D#`
abbrev pub letter_indexed : ℕ → ℕ → IndexRow
letter_indexed letter current =
    record { chars = 1; selector = 0; letter = letter; size = 88; index = 1; ondex = 0; zeros = 4; current = current }

-- `0A##`, `0B##`
abbrev pub zero_indexed : ℕ → ℕ → IndexRow
zero_indexed letter current =
    record { chars = 2; selector = 52; letter = letter; size = 156; index = 1; ondex = 1; zeros = 0; current = current }

-- `2A####` to `2D####`
abbrev pub two_indexed : ℕ → ℕ → IndexRow
two_indexed letter current =
    record { chars = 2; selector = 54; letter = letter; size = 92; index = 2; ondex = 2; zeros = 4; current = current }

-- `3A######`, `3B######`
abbrev pub three_indexed : ℕ → ℕ → IndexRow
three_indexed letter current =
    record { chars = 2; selector = 55; letter = letter; size = 160; index = 3; ondex = 3; zeros = 0; current = current }

unfoldable pub indexed_codes : List IndexRow
indexed_codes =
    letter_indexed 0 0 ∷  -- A#: both same
    letter_indexed 1 1 ∷  -- B#: current only
    letter_indexed 2 0 ∷  -- C#: both same
    letter_indexed 3 1 ∷  -- D#: current only
    zero_indexed 0 0 ∷  -- 0A##: dual
    zero_indexed 1 1 ∷  -- 0B##: current only
    two_indexed 0 0 ∷  -- 2A####: big dual
    two_indexed 1 1 ∷  -- 2B####: big current only
    two_indexed 2 0 ∷  -- 2C####: big dual
    two_indexed 3 1 ∷  -- 2D####: big current only
    three_indexed 0 0 ∷  -- 3A######: big dual
    three_indexed 1 1 ∷  -- 3B######: big current only
    []

-- 003's "Code Len": the characters of code, index and ondex
abbrev pub index_chars : IndexRow → ℕ
index_chars c = c.chars + c.index + c.ondex

-- "The header is one unit, or two for selectors 2 and 3"
unfoldable pub index_head : IndexRow → ℕ
index_head c = pick (ltb c.selector 54) 1 2

unfoldable pub indexed_row : IndexRow → Opening
indexed_row c = pick (eqb (index_head c) 1) (Short (Indexed c) (c.size / 4)) (Long (Indexed c) (c.size / 4))

-- an indexed code by its selector, 0 where the letter stands alone, and its letter: everything else is unknown
unfoldable pub indexed_among : List IndexRow → ℕ → ℕ → Opening
indexed_among [] selector letter = Unknown
indexed_among (c ∷ cs) selector letter =
    pick (eqb c.selector selector) (pick (eqb c.letter letter) (indexed_row c) (indexed_among cs selector letter))
    (indexed_among cs selector letter)

unfoldable pub indexed_by : ℕ → ℕ → Opening
indexed_by selector letter = indexed_among indexed_codes selector letter

-- by the first unit's sextets: "Nothing but indexed items may stand there; any other start is 6"
unfoldable pub indexed_opening : ℕ → ℕ → ℕ → ℕ → Opening
indexed_opening a b c d =
    pick (ltb a 52) (indexed_by 0 a)  -- one letter
    (pick (eqb a 52) (indexed_by 52 b)  -- `0`+letter
    (pick (eqb a 54) (indexed_by 54 b)  -- `2`+letter
    (pick (eqb a 55) (indexed_by 55 b)  -- `3`+letter
    Unknown)))

-- by the table that is asked
abbrev pub opening_by : Bool → ℕ → ℕ → ℕ → ℕ → Opening
opening_by true = indexed_opening
opening_by false = opening

-- ---- headers and extents

-- "A header is the first unit, or the first two for selectors `7` `8` `9` and codes `--` `-◌`", and by 02 a for the indexed selectors `2` and
-- `3`; none where the code is unknown
unfoldable pub header_units : Opening → ℕ
header_units Unknown = 0
header_units (Short k n) = 1
header_units (Long k n) = 2
header_units (LargeVariable t l) = 2
header_units (LargeGroup l d) = 2
header_units Version = 2

-- the full size in units, n being the number that the second unit's four digits stand for
unfoldable pub extent : Opening → ℕ → ℕ
extent Unknown n = 0
extent (Short k size) n = size
extent (Long k size) n = size
extent (LargeVariable t l) n = 2 + n
extent (LargeGroup l d) n = 2 + (d * 16777216 + n)
extent Version n = 2
