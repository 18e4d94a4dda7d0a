-- `walk_fit::is_fit` meets its contract. The last test of 13: the position is before where the innermost group ends. Assumes nothing.
use Rattle.walk_fit.proofs.Laws.{fit-inner}
use borrow.Author.Rules.{rules}
use Rattle.walk_fit.proofs.is_fit.Goals as goal

pub returns : goal.returns
returns c = let a = c.args in λ l. fit-inner a.slots.now a.p a.n (search rules) (search rules) c.slots_fit.ensures c.if-not-slots_fit.false c.if-depth-eq0.false
