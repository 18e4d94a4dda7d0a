-- The kind of the item that a header opens. Assumes nothing.
use Rattle.std.specs.Prelude.{ℕ}
use Rattle.format.specs.declared.Kind.{Kind}
use Rattle.format.specs.declared.Kind.TheVariants.{Variable, Group, Genus}
use Rattle.format.specs.declared.Opening.{Opening}
use Rattle.format.specs.declared.Opening.TheVariants.{Unknown, Short, Long, LargeVariable, LargeGroup, Version}

-- by its first unit, n being the number that the second unit's four digits stand for. Where the code is unknown no item is framed, and the
-- kind is of no account
unfoldable pub kind_of : Opening → ℕ → Kind
kind_of Unknown n = Genus
kind_of (Short k size) n = k
kind_of (Long k size) n = k
kind_of (LargeVariable t l) n = Variable t l n
kind_of (LargeGroup l d) n = Group l
kind_of Version n = Genus
