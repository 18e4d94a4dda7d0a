-- 01's alphabet written out, against the table of values: 02's request b, "one table of 256 entries, its rule shown over all of them: 64
-- give 01's values, the other 192 none", and request j: three of these have a mark of their own. One test, computed over the whole table;
-- what it says of each entry is in claims. Assumes nothing.
use Rattle.std.specs.Prelude.{ℕ, ◌+◌, Bool, true, List, [], ◌∷◌, T, eqb, ltb, leb, length, get_or}
use Prim.Native.Char.{code}
use Prim.Native.String.{String, char_at}
use Rattle.base.specs.Pick.{pick}
use Rattle.base.specs.Table.{both, every}
use Rattle.base.specs.Below.{all}
use Rattle.format.specs.Alphabet.{stranger, ordinary, sextet_of, sextet_table}

-- "`A`-`Z` 0 to 25, `a`-`z` 26 to 51, `0`-`9` 52 to 61, `-` 62, `_` 63": a character's value is its place here
abbrev pub alphabet : String
alphabet = "ABCDEFGHIJKLMNOPQRSTUVWXYZabcdefghijklmnopqrstuvwxyz0123456789-_"

-- the character with a value, as a byte
abbrev pub character_with : ℕ → ℕ
character_with v = code (char_at alphabet v)

-- 02 j: "`+`, `/` or `=` from the ordinary alphabet"
abbrev pub ordinaries : String
ordinaries = "+/="

abbrev pub ordinary_at : ℕ → ℕ
ordinary_at i = code (char_at ordinaries i)

-- how many entries of a table pass a test
abbrev pub how_many : (ℕ → Bool) → List ℕ → ℕ
how_many p [] = 0
how_many p (x ∷ xs) = pick (p x) 1 0 + how_many p xs

-- ---- the test

-- an entry is its byte's place in the alphabet, or no value: a mark of the three, and one of all others
abbrev pub one_of_three : ℕ → Bool
one_of_three c = pick (eqb c (ordinary_at 0)) true (pick (eqb c (ordinary_at 1)) true (eqb c (ordinary_at 2)))

abbrev pub own : ℕ → ℕ → Bool
own c x = pick (ltb x 64) (eqb (character_with x) c) (eqb x (pick (one_of_three c) ordinary stranger))

module _ (t : List ℕ) where
  -- a value is its character's entry
  abbrev pub valued : ℕ → Bool
  valued v = eqb (get_or t (character_with v) 0) v

  -- and no other byte's
  abbrev pub single : ℕ → Bool
  single v = eqb (how_many (eqb v) t) 1

  abbrev pub full : Bool
  full = eqb (length t) 256

  abbrev pub sixty_four : Bool
  sixty_four = eqb (how_many (λ x. ltb x 64) t) 64

  abbrev pub others : Bool
  others = eqb (how_many (leb 64) t) 192

  abbrev pub three : Bool
  three = both (eqb (how_many (eqb ordinary) t) 3) (eqb (how_many (eqb stranger) t) 189)

  abbrev pub counted : Bool
  counted = both full (both sixty_four (both others three))

  -- each of the three has its mark
  abbrev pub marked : ℕ → Bool
  marked i = eqb (get_or t (ordinary_at i) 0) ordinary

  abbrev pub ruled : Bool
  ruled = both (every own 0 t) (both (all marked 3) (all (λ v. both (valued v) (single v)) 64))

pub table-holds : T (both (counted sextet_table) (ruled sextet_table))
unfolding sextet_table sextet_of
table-holds = tt
