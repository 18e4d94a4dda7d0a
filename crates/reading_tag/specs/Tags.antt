-- Tag characters in eleven places, and the rows whose first twelve sextets have them. Assumes nothing.
use Rattle.std.specs.Prelude.{ℕ, ◌+◌, ◌-◌, ◌≤◌, ◌≡◌, List, map, ◌++◌, take, drop, replicate}
use Rattle.format.specs.Alphabet.{char_of}
use Rattle.format.specs.declared.Kind.{Kind}
use Rattle.format.specs.declared.Kind.TheVariants.{Fixed, Variable, Group, Genus, Indexed}
use Rattle.format.specs.Registry.{prepad_of}

-- so many tag characters from a place on, in eleven places
unfoldable pub tag_from : List ℕ → ℕ → ℕ → List ℕ
tag_from cs start n = map char_of (take n (drop start cs)) ++ replicate (11 - n) 0

-- a row whose tag characters lie in the first twelve sextets and end with the item
abbrev pub Taggable : Kind → Type 0
Taggable (Fixed c) = (c.tag ≡ 0 → ⊥) → (c.chars + prepad_of c + c.tag ≡ c.size) × (c.size ≤ 12) × (c.tag ≤ 11)
Taggable (Variable t l n) = Unit {0}
Taggable (Group l) = Unit {0}
Taggable Genus = Unit {0}
Taggable (Indexed c) = Unit {0}
