-- `pieces_taken::progress_with` meets its contract. Assumes nothing.
use mathlib.Core.Path.{ap}
use Rattle.pieces_taken.proofs.Laws.{with_walk}
use Rattle.pieces_taken.proofs.progress_with.Goals as goal

pub returns : goal.returns
returns c = let g = c.args.g in ap (with_walk g) c.walk_with.ensures
