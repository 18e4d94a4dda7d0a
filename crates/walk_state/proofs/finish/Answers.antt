-- `walk_state::finish` meets its contract. Assumes nothing.
use Rattle.walk_state.proofs.Lent.{finish-none, finish-some}
use borrow.Author.Rules.{rules}
use Rattle.walk_state.proofs.finish.Goals as goal

pub returns-then-p-gt-MAX_DEPTH : goal.returns-then-p-gt-MAX_DEPTH
returns-then-p-gt-MAX_DEPTH c = finish-none _ _ (search rules)

pub returns : goal.returns
returns c = finish-some _ _ (search rules) c.close-still.ensures c.still_open.ensures
