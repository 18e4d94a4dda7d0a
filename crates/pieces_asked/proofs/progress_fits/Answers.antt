-- `pieces_asked::progress_fits` meets its contract. Assumes nothing.
use mathlib.Core.Path.{◌∙◌}
use Rattle.pieces.specs.Calls.{progress_fits}
use Rattle.pieces_asked.proofs.progress_fits.Goals as goal

pub returns : goal.returns
unfolding progress_fits
returns c = c.both.ensures ∙ rw (c.both-rest.ensures, c.counts_fit.ensures, c.walk_fits.ensures, c.is_open-open.ensures)
