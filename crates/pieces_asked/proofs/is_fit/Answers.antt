-- `pieces_asked::is_fit` meets its contract. Assumes nothing.
use mathlib.Core.Path.{◌∙◌}
use Rattle.pieces.specs.Calls.{is_fit}
use Rattle.pieces_asked.proofs.is_fit.Goals as goal

pub returns : goal.returns
unfolding is_fit
returns c =
    c.both.ensures
    ∙ rw (c.both-fits.ensures, c.progress_fits.ensures, c.both-part.ensures, c.both-places.ensures, c.places_fit.ensures, c.taken_fits-within.ensures, c.unit-u.ensures)
