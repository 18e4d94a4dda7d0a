-- `pieces_asked::counts_fit` meets its contract. Assumes nothing.
use Rattle.pieces_asked.proofs.Laws.{place-few}
use Rattle.pieces_asked.proofs.counts_fit.Goals as goal

pub returns : goal.returns
returns c =
    let p = c.args.p in
    rw (← (place-few p.place p.read), ← c.both-inside.ensures, ← c.both-begun.ensures) c.both.ensures
