-- `instalments_walk::walk_on_binary` meets its contract. Assumes nothing.
use Rattle.instalments_walk.proofs.walk_on_binary.Goals as goal

pub returns : goal.returns
returns c = rw (c.binary_pause.ensures, c.walk_on-r.ensures)
