-- `walk_count::rest_binary` meets its contract. Assumes nothing.
use Rattle.walk_count.proofs.rest_binary.Goals as goal

pub returns : goal.returns
returns c = rw (c.binary_end.ensures, c.rest_in-t.ensures)
