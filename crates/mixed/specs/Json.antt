-- 02 d: "A JSON item must open with the bytes `{"v":"` and then the 17-character version 1 string: four capital letters of protocol, two
-- lowercase hexadecimal digits of version, `JSON`, six lowercase hexadecimal digits of total length, `_`. Its header is those 23 bytes."
-- Bytes are numbers. Assumes nothing.
use Rattle.std.specs.Prelude.{ℕ, zero, suc, ◌+◌, ◌-◌, ◌*◌, List, [], ◌∷◌, Bool, true, false, length, get_or, ltb, eqb}
use Rattle.base.specs.Pick.{pick}
use Rattle.format.specs.declared.Kind.{Kind}
use Rattle.format.specs.declared.Framed.{Framed}
use Rattle.format.specs.declared.Framed.TheVariants.{Item, Unframed}
use Rattle.format.specs.Alphabet.{within}

abbrev pub is_capital : ℕ → Bool
is_capital c = within 65 90 c

-- the value of a lowercase hexadecimal digit, and 16, which is none, for every other byte
unfoldable pub hex_of : ℕ → ℕ
hex_of c = pick (within 48 57 c) (c - 48) (pick (within 97 102 c) (c - 97 + 10) 16)

-- a byte against one of the pattern: 0 stands for a capital letter, 1 for a lowercase hexadecimal digit, any other for itself
unfoldable pub meets : ℕ → ℕ → Bool
meets p c = pick (eqb p 0) (is_capital c) (pick (eqb p 1) (ltb (hex_of c) 16) (eqb c p))

unfoldable pub pattern : List ℕ
pattern =
    123 ∷ 34 ∷ 118 ∷ 34 ∷ 58 ∷ 34 ∷  -- `{"v":"`
    0 ∷ 0 ∷ 0 ∷ 0 ∷  -- protocol
    1 ∷ 1 ∷  -- version
    74 ∷ 83 ∷ 79 ∷ 78 ∷  -- `JSON`
    1 ∷ 1 ∷ 1 ∷ 1 ∷ 1 ∷ 1 ∷  -- total length
    95 ∷ []  -- `_`

-- "Its header is those 23 bytes."
abbrev pub json_head : ℕ
json_head = 23

-- the bytes from i on are as the pattern asks
unfoldable pub passes : List ℕ → ℕ → List ℕ → Bool
passes [] i xs = true
passes (p ∷ ps) i xs = pick (meets p (get_or xs i 0)) (passes ps (suc i) xs) false

-- the number that n digits from i on stand for, behind those of a
unfoldable pub hex_from : ℕ → ℕ → ℕ → List ℕ → ℕ
hex_from zero i a xs = a
hex_from (suc n) i a xs = hex_from n (suc i) (a * 16 + hex_of (get_or xs i 0)) xs

-- the total length, counted from `{`: its six digits stand behind the 16 bytes up to `JSON`
unfoldable pub json_size : List ℕ → ℕ
json_size xs = hex_from 6 16 0 xs

-- "or a length below 23, is 17; then a length past the end is 4": of a total length of size, where len bytes are left. Framing tells a kind,
-- and a JSON item has none of 01's: k stands for it, and no report looks at it (mixed_claims, kind-free)
unfoldable pub fit_json : Kind → ℕ → ℕ → Framed
fit_json k size len = pick (ltb size json_head) (Unframed 17 0) (pick (ltb len size) (Unframed 4 0) (Item k json_head size))

-- "Fewer than 23 bytes left is a remainder 4; then a malformed header" is 17
unfoldable pub frame_json : Kind → List ℕ → Framed
frame_json k xs =
    pick (ltb (length xs) json_head) (Unframed 4 0)
    (pick (passes pattern 0 xs) (fit_json k (json_size xs) (length xs))
    (Unframed 17 0))
