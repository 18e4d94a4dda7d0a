-- `pieces_taken::stage_of` meets its contract. Assumes nothing.
use mathlib.Core.Path.{◌≡◌, ap}
use lib.ListN.{length}
use Rattle.format.specs.Judging.{max_depth}
use Rattle.pieces_taken.proofs.Laws.{walk_in}
use borrow.Author.Rules.{rules}
use Rattle.pieces_taken.proofs.stage_of.Goals as goal

pub returns : goal.returns
returns c =
    let p = c.args.p in
    let l : length p.walk.ends ≡ max_depth = search rules in
    (ap (walk_in p) c.place.ensures, l)
