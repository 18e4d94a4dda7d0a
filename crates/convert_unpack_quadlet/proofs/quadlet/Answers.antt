-- `convert_unpack_quadlet::quadlet` meets its contract. Assumes nothing.
use Rattle.convert_unpack_quadlet.proofs.Pairs.{quadlet-found}
use Rattle.convert_unpack_quadlet.proofs.quadlet.Goals as goal

pub returns : goal.returns
returns c = λ pairs.
    rw (c.high.ensures, c.high-2.ensures) (quadlet-found c.args.table.now c.args.t pairs c.number-n.ensures)
