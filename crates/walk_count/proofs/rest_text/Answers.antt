-- `walk_count::rest_text` meets its contract. Assumes nothing.
use Rattle.walk_count.proofs.rest_text.Goals as goal

pub returns : goal.returns
returns c = rw (c.text_end.ensures, c.rest_in-t.ensures)
