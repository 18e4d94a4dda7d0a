-- Format's reading in the types of the code. Assumes nothing.
use Rattle.format.specs.declared.Framed.{Framed}
use Rattle.format.specs.declared.Framed.TheVariants.{Item, Unframed}
use Rattle.format.specs.Reading.{Reading}
use Rattle.format.specs.Reading.Reading.{refused, found}

-- what was found as an item, what was refused as unframed
unfoldable pub outcome : Reading → Framed
outcome (refused m p) = Unframed m p
outcome (found k h n) = Item k h n
