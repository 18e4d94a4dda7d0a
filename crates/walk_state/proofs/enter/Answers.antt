-- `walk_state::enter` meets its contract. Assumes nothing.
use Rattle.walk_state.proofs.Lent.{enter-none, enter-marked, enter-empty}
use borrow.Author.Rules.{rules}
use Rattle.walk_state.proofs.enter.Goals as goal

pub returns-then-depth-ge-MAX_DEPTH : goal.returns-then-depth-ge-MAX_DEPTH
returns-then-depth-ge-MAX_DEPTH c = let a = c.args in enter-none a.slots.now a.p a.at a.end a.mark a.indexed (search rules)

pub returns-then-at-end : goal.returns-then-at-end
returns-then-at-end c = let a = c.args in enter-marked a.slots.now a.p a.at a.end a.mark a.indexed (search rules) c.if-at-end.true

pub returns-else-at-end : goal.returns-else-at-end
returns-else-at-end c = let a = c.args in enter-empty a.slots.now a.p a.at a.end a.mark a.indexed (search rules) c.if-at-end.false
