-- `pieces_end::put_rest` meets its contract. Assumes nothing.
use mathlib.Core.Path.{◌∙◌}
use Rattle.pieces_end.proofs.put_rest.Goals as goal

pub returns : goal.returns
returns c = c.put_told.ensures ∙ rw (c.offset_of.ensures, c.number_at-number.ensures)
