-- `pieces_asked::places_fit` meets its contract. Assumes nothing.
use mathlib.Core.Path.{◌∙◌}
use Rattle.pieces_asked.proofs.Laws.{places-all}
use Rattle.pieces_asked.proofs.places_fit.Goals as goal

pub returns : goal.returns
returns c =
    let a = c.args in
    c.both-3.ensures ∙ rw (c.both-2.ensures, c.both.ensures, c.place_fits-d.ensures, c.place_fits-c.ensures, c.place_fits-b.ensures, c.place_fits-a.ensures)
    (places-all a.held a.count)
