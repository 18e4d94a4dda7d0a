-- `walk_extent::measured` meets its contract. Assumes nothing.
use mathlib.Core.Path.{refl}
use Rattle.walk_extent.proofs.measured.Goals as goal

pub returns-in-Text : goal.returns-in-Text
returns-in-Text c = rw c.in-Text.is (record { limit = refl; units = refl; rest = refl })

pub returns-in-Binary : goal.returns-in-Binary
returns-in-Binary c = rw c.in-Binary.is (record { limit = refl; units = refl; rest = refl })
