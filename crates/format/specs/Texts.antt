-- 02 c, "Base64 strings are text, not bytes": "The value is text filled in front with `A` to whole quadlets". Of a value's own sextets,
-- which stand behind the header; `A` is 0. Assumes nothing.
use Rattle.std.specs.Prelude.{ℕ, zero, suc, ◌+◌, ◌-◌, ◌/◌, ◌%◌, List, [], ◌∷◌, map, Bool, true, false, not, drop, eqb}
use Rattle.base.specs.Pick.{pick}
use Rattle.format.specs.Alphabet.{char_of}
use Rattle.format.specs.Registry.{is_text}

-- so many `A` stand in front
unfoldable pub fills : ℕ → List ℕ → Bool
fills zero v = true
fills (suc f) [] = false
fills (suc f) (x ∷ v) = pick (eqb x 0) (fills f v) false

-- "Selectors 4 and 7 take off one `A` if there is one, 5 and 8 exactly two, 6 and 9 exactly three"
unfoldable pub fill_of : ℕ → List ℕ → ℕ
fill_of lead v = pick (eqb lead 0) (pick (fills 1 v) 1 0) (lead + 1)

-- 16: "A text that itself starts with `A` .. under every selector it is refused .. as is a value without the full fill"
unfoldable pub text_right : ℕ → List ℕ → Bool
text_right lead v = pick (fills (fill_of lead v) v) (not (fills 1 (drop (fill_of lead v) v))) false

-- 16 asked of a value of type t
unfoldable pub value_right : ℕ → ℕ → List ℕ → Bool
value_right t lead v = pick (is_text t) (text_right lead v) true

-- the characters
unfoldable pub text_of : ℕ → List ℕ → List ℕ
text_of lead v = map char_of (drop (fill_of lead v) v)

-- ---- what a text of so many characters is filled with

unfoldable pub fill_for : ℕ → ℕ
fill_for chars = (4 - chars % 4) % 4

-- 0 for a fill of none or one, 1 for two, 2 for three
unfoldable pub text_lead : ℕ → ℕ
text_lead chars = fill_for chars - 1

-- units
unfoldable pub text_count : ℕ → ℕ
text_count chars = (chars + fill_for chars) / 4
