-- `put_by_characters` meets its contract. Assumes nothing.
use Rattle.laws.specs.Units.{read-unit-back}
use Rattle.convert_unpack_units.proofs.put_by_characters.Goals as goal

pub returns : goal.returns
returns c =
    let t = read-unit-back c.requires.0 c.triplet_at.ensures c.quadlet-q.ensures in
    rw t at c.put_quadlet.ensures
