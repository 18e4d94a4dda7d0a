-- Kinds whose digits lie in the first sextets. Assumes nothing.
use Rattle.format.specs.declared.Kind.{Kind}
use Rattle.format.specs.declared.Kind.TheVariants.{Fixed, Variable, Group, Genus, Indexed}
use Rattle.indexed_digits.specs.Placed.{Placed}

-- an indexed kind of such a row
abbrev pub PlacedIn : Kind → Type 0
PlacedIn (Fixed c) = ⊥
PlacedIn (Variable t l m) = ⊥
PlacedIn (Group l) = ⊥
PlacedIn Genus = ⊥
PlacedIn (Indexed c) = Placed c
