-- `pieces_taken::walk_with` meets its contract. Assumes nothing.
use Rattle.pieces_taken.proofs.Laws.{ends-whole}
use borrow.Author.Rules.{rules}
use Rattle.pieces_taken.proofs.walk_with.Goals as goal

pub returns : goal.returns
returns c = let a = c.args in ends-whole a.ends a.g.walk (search rules)
