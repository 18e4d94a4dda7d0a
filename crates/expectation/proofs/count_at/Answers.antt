-- `count_at` meets its contract. Assumes nothing.
use Rattle.expectation.proofs.Laws.{count-is}
use borrow.Author.Rules.{rules}
use Rattle.expectation.proofs.count_at.Goals as goal

pub returns : goal.returns
returns c = count-is c.args.s.now c.args.at c.quad.result (search rules) c.quad.ensures
