-- `walk::move_near` meets its contract. Assumes nothing.
use Rattle.walk.proofs.Steps.{reaches, scaled}
use Rattle.walk.proofs.move_near.Goals as goal

pub found_in-requires : goal.found_in-requires
found_in-requires c =
    reaches _ _ _ _ c.requires.1 _ c.move_units-m.ensures

pub returns : goal.returns
returns c = scaled _ c.move_units-m.ensures c.found_in.ensures
