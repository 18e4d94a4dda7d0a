-- `instalments_walk::walk_on_text` meets its contract. Assumes nothing.
use Rattle.instalments_walk.proofs.walk_on_text.Goals as goal

pub returns : goal.returns
returns c = rw (c.text_pause.ensures, c.walk_on-r.ensures)
