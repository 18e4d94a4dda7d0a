-- 01, "The registry we follow": "The alphabet is URL-safe Base64 of RFC 4648". Characters are numbers of ASCII. Assumes nothing.
use Rattle.std.specs.Prelude.{ℕ, ◌+◌, ◌-◌, Bool, true, false, List, map, leb, eqb}
use Rattle.base.specs.Pick.{pick}
use Rattle.base.specs.Lists.{up_to}

abbrev pub within : ℕ → ℕ → ℕ → Bool
within low high c = pick (leb low c) (leb c high) false

-- 02 j: "`+`, `/` or `=` from the ordinary alphabet"
abbrev pub is_ordinary : ℕ → Bool
is_ordinary c = pick (eqb c 43) true (pick (eqb c 47) true (eqb c 61))

-- a character outside the alphabet has none of the 64 values and reads as a mark; "The lookup should tell these three apart from other
-- strangers"
abbrev pub stranger : ℕ
stranger = 64

abbrev pub ordinary : ℕ
ordinary = 65

unfoldable pub sextet_of : ℕ → ℕ
sextet_of c =
    pick (within 65 90 c) (c - 65)  -- `A`-`Z` 0 to 25
    (pick (within 97 122 c) (c - 97 + 26)  -- `a`-`z` 26 to 51
    (pick (within 48 57 c) (c - 48 + 52)  -- `0`-`9` 52 to 61
    (pick (eqb c 45) 62  -- `-` 62
    (pick (eqb c 95) 63  -- `_` 63
    (pick (is_ordinary c) ordinary stranger)))))

-- the number of a character outside the alphabet, by its mark. 02 j: "report them as number 19 where they would have given 5"
unfoldable pub stranger_number : ℕ → ℕ
stranger_number v = pick (eqb v ordinary) 19 5

-- the character of a sextet, and 0, which is no character of the alphabet, from 64 on
unfoldable pub char_of : ℕ → ℕ
char_of v =
    pick (within 0 25 v) (v + 65)
    (pick (within 26 51 v) (v - 26 + 97)
    (pick (within 52 61 v) (v - 52 + 48)
    (pick (eqb v 62) 45
    (pick (eqb v 63) 95
    0))))

-- the same as tables: the value of each byte, the character of each sextet
unfoldable pub sextet_table : List ℕ
sextet_table = map sextet_of (up_to 256)

unfoldable pub character_table : List ℕ
character_table = map char_of (up_to 64)
