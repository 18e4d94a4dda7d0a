-- What a kind says of the items in it. Assumes nothing.
use Rattle.std.specs.Prelude.{Bool, true, false}
use Rattle.format.specs.declared.Kind.{Kind}
use Rattle.format.specs.declared.Kind.TheVariants.{Fixed, Variable, Group, Genus, Indexed}
use Rattle.format.specs.Registry.{is_indexed, is_overrideable}

-- a group; one of whose first item 7 is asked; and one whose items are indexed ones
unfoldable pub is_entered : Kind → Bool
is_entered (Fixed c) = false
is_entered (Variable t l c) = false
is_entered (Group letter) = true
is_entered Genus = false
is_entered (Indexed c) = false

unfoldable pub is_ruled : Kind → Bool
is_ruled (Fixed c) = false
is_ruled (Variable t l c) = false
is_ruled (Group letter) = is_overrideable letter
is_ruled Genus = false
is_ruled (Indexed c) = false

unfoldable pub holds_indexed : Kind → Bool
holds_indexed (Fixed c) = false
holds_indexed (Variable t l c) = false
holds_indexed (Group letter) = is_indexed letter
holds_indexed Genus = false
holds_indexed (Indexed c) = false
