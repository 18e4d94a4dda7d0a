-- What a first unit alone can decide, if its characters are known: the size of an item whose header it is; whether a primitive is
-- accepted, if its other characters are known too; which table frames a group's items. Groups one in the other. Assumes nothing.
use Rattle.std.specs.Prelude.{ℕ, zero, suc, ◌+◌, ◌-◌, ◌*◌, ◌/◌, ◌%◌, ◌^◌, List, map, ◌++◌, Bool, false, not, ltb, eqb, length, get_or}
use Rattle.base.specs.Pick.{pick}
use Rattle.base.specs.Lists.{up_to}
use Rattle.format.specs.declared.CodeRow.{CodeRow}
use Rattle.format.specs.declared.Kind.TheVariants.{Fixed, Variable, Group, Genus, Indexed}
use Rattle.format.specs.declared.Opening.{Opening}
use Rattle.format.specs.declared.Opening.TheVariants.{Unknown, Short, Long, LargeVariable, LargeGroup, Version}
use Rattle.format.specs.Registry.{fixed, is_type, is_text, is_group, is_indexed, is_overrideable, zero_bits_of, prepad_of}
use Rattle.format.specs.Framing.{sextet}
use Rattle.format.specs.Alphabet.{sextet_of}

-- ---- primitives

-- the sextet behind a code is below this exactly if the code's zero bits are zero; 0 where one sextet does not tell, and with a prepad
unfoldable pub limit_of : CodeRow → ℕ
limit_of c = pick (eqb (prepad_of c) 0) (pick (ltb (zero_bits_of c) 7) (2 ^ (6 - zero_bits_of c)) 0) 0

-- the size in units and 64 times the limit
unfoldable pub plain_row : Opening → ℕ
plain_row Unknown = 0
plain_row (Short (Fixed c) n) = pick (ltb n 64) (n + 64 * limit_of c) 0
plain_row (Short (Variable t l m) n) = 0
plain_row (Short (Group l) n) = 0
plain_row (Short Genus n) = 0
plain_row (Short (Indexed c) n) = 0
plain_row (Long k n) = 0
plain_row (LargeVariable t l) = 0
plain_row (LargeGroup l d) = 0
plain_row Version = 0

-- the rows of the codes of so many characters, by their letter
unfoldable pub rows_of : ℕ → List ℕ
rows_of chars = map (λ letter. plain_row (fixed chars letter)) (up_to 64)

-- one letter, then `0` and a letter, then `1AA` and a letter
unfoldable pub plain_table : List ℕ
plain_table = rows_of 1 ++ (rows_of 2 ++ rows_of 4)

-- the row in one of the three lists, by the sextet that tells the code there; 0 past the list
unfoldable pub row_of : List ℕ → ℕ → ℕ → ℕ
row_of rows list x = pick (ltb x 64) (get_or rows (64 * list + x) 0) 0

-- the size, if the sextet behind the code is below the limit
unfoldable pub limited : ℕ → ℕ → ℕ
limited row x = pick (ltb x (row / 64)) (row % 64) 0

-- the row of `1AA` and a letter, by what is behind the `1`
unfoldable pub row_aa : List ℕ → ℕ → ℕ → ℕ → ℕ
row_aa rows b c d = pick (eqb b 0) (pick (eqb c 0) (row_of rows 2 d) 0) 0

-- ---- at a first unit, as four sextets that are known

-- one unit, and as many as two digits say
abbrev pub counted : ℕ → ℕ → ℕ
counted c d = 1 + (c * 64 + d)

-- a small variable value, by what is behind the selector
unfoldable pub typed : ℕ → ℕ → ℕ → ℕ
typed b c d = pick (is_type b) (counted c d) 0

-- and of another type than text: what 16 asks of a text stands behind the first unit
unfoldable pub not_text : ℕ → ℕ → ℕ → ℕ
not_text b c d = pick (is_text b) 0 (typed b c d)

-- a small group, by what is behind the `-`
unfoldable pub lettered : ℕ → ℕ → ℕ → ℕ
lettered b c d = pick (is_group b) (counted c d) 0

-- the size in units of an item whose header is one unit; 0 for everything else
unfoldable pub sized_of : List ℕ → ℕ → ℕ → ℕ → ℕ → ℕ
sized_of rows a b c d =
    pick (ltb a 52) (row_of rows 0 a % 64)
    (pick (eqb a 52) (row_of rows 1 b % 64)
    (pick (eqb a 53) (row_aa rows b c d % 64)
    (pick (ltb a 56) 0
    (pick (ltb a 59) (typed b c d)
    (pick (eqb a 62) (lettered b c d) 0)))))

-- and of a primitive that is plain: accepted, if its other characters are known. Behind `1AA` and a letter stands no code's sextet:
-- 63 is below the limit where there are no zero bits
unfoldable pub plain_of : List ℕ → ℕ → ℕ → ℕ → ℕ → ℕ
plain_of rows a b c d =
    pick (ltb a 52) (limited (row_of rows 0 a) b)
    (pick (eqb a 52) (limited (row_of rows 1 b) c)
    (pick (eqb a 53) (limited (row_aa rows b c d) 63)
    (pick (eqb a 56) (not_text b c d) 0)))

-- the size in units of a small group, whichever table frames its items; 0 for everything else
unfoldable pub small_of : ℕ → ℕ → ℕ → ℕ → ℕ
small_of a b c d = pick (eqb a 62) (lettered b c d) 0

-- and of one whose items the master table frames, any but `-K` and `-L`
unfoldable pub group_of : ℕ → ℕ → ℕ → ℕ → ℕ
group_of a b c d = pick (eqb a 62) (pick (is_group b) (pick (is_indexed b) 0 (counted c d)) 0) 0

-- ---- at a unit of a stream

-- a rule of the four elements of a unit; 0 past the last whole one
unfoldable pub unit_by : (ℕ → ℕ → ℕ → ℕ → ℕ) → List ℕ → ℕ → ℕ
unit_by f s at = pick (ltb at (length s / 4)) (f (sextet s (4 * at)) (sextet s (4 * at + 1)) (sextet s (4 * at + 2)) (sextet s (4 * at + 3))) 0

abbrev pub sized_at : List ℕ → List ℕ → ℕ → ℕ
sized_at rows s at = unit_by (sized_of rows) s at

abbrev pub plain_at : List ℕ → List ℕ → ℕ → ℕ
plain_at rows s at = unit_by (plain_of rows) s at

abbrev pub small_at : List ℕ → ℕ → ℕ
small_at s at = unit_by small_of s at

abbrev pub group_at : List ℕ → ℕ → ℕ
group_at s at = unit_by group_of s at

-- the letter of a group
abbrev pub letter_at : List ℕ → ℕ → ℕ
letter_at s at = sextet s (4 * at + 1)

-- whether 7 is asked of the first item of a group at a unit
unfoldable pub marks_at : List ℕ → ℕ → Bool
marks_at s at = pick (ltb at (length s / 4)) (is_overrideable (letter_at s at)) false

-- whether its items are indexed ones
unfoldable pub signed_at : List ℕ → ℕ → Bool
signed_at s at = pick (ltb at (length s / 4)) (is_indexed (letter_at s at)) false

-- ---- groups that end with what is around them

-- how many small groups stand one in the other from a unit on, each of them all that is left up to the unit stop, of n at most
unfoldable pub nested : (ℕ → ℕ) → ℕ → ℕ → ℕ → ℕ
nested g stop zero at = 0
nested g stop (suc n) at = pick (ltb at stop) (pick (eqb (g at) (stop - at)) (suc (nested g stop n (at + 1))) 0) 0

unfoldable pub nested_at : (ℕ → ℕ) → ℕ → ℕ → ℕ → ℕ → ℕ
nested_at g units stop n at = pick (ltb units stop) 0 (nested g stop n at)

-- ---- a small group by its first two sextets

unfoldable pub small_by : ℕ → ℕ → Bool
small_by a b = pick (eqb a 62) (is_group b) false

-- whose items the master table frames
unfoldable pub opens_by : ℕ → ℕ → Bool
opens_by a b = pick (eqb a 62) (pick (is_group b) (not (is_indexed b)) false) false

-- ---- text, its sextets by a table

unfoldable pub sextets_by : List ℕ → List ℕ → List ℕ
sextets_by values s = map (λ c. get_or values c 0) s

-- a character as a group's letter: 0 where the master table frames the items, 1 where 7 is asked of the first of them, 2 where the indexed
-- table frames them, 3 for everything else
unfoldable pub class_of : ℕ → ℕ
class_of c = pick (is_group (sextet_of c)) (pick (is_indexed (sextet_of c)) 2 (pick (is_overrideable (sextet_of c)) 1 0)) 3

unfoldable pub class_table : List ℕ
class_table = map class_of (up_to 256)

-- a small group by its characters, of a letter up to a class; 45 is `-`
unfoldable pub char_group : List ℕ → List ℕ → ℕ → ℕ → ℕ → ℕ → ℕ → ℕ
char_group values classes last w x y z = pick (eqb w 45) (pick (ltb last (get_or classes x 0)) 0 (counted (get_or values y 0) (get_or values z 0))) 0

abbrev pub group_by : List ℕ → List ℕ → ℕ → List ℕ → ℕ → ℕ
group_by values classes last s at = unit_by (char_group values classes last) s at

-- whether the letter of the group at a unit is of a class
unfoldable pub class_by : List ℕ → ℕ → List ℕ → ℕ → Bool
class_by classes class s at = pick (ltb at (length s / 4)) (eqb (get_or classes (sextet s (4 * at + 1)) 0) class) false
