-- The first sextets of a list, as arrays hold them: 0 past the end. Assumes nothing.
use Rattle.std.specs.Prelude.{ℕ, ◌+◌, List, [], ◌∷◌, map, get_or}
use Rattle.base.specs.Lists.{up_to}

-- four from a place on
abbrev pub unit_of : List ℕ → ℕ → List ℕ
unit_of s at = get_or s at 0 ∷ get_or s (at + 1) 0 ∷ get_or s (at + 2) 0 ∷ get_or s (at + 3) 0 ∷ []

-- those of three units: no check of a header looks further
unfoldable pub head_of : List ℕ → List ℕ
head_of s = map (λ i. get_or s i 0) (up_to 12)
