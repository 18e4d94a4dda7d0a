-- `walk_state::Walk::place` meets its contract. Assumes nothing.
use borrow.Author.Rules.{rules}
use Rattle.walk_state.proofs.Lent.{own-place}
use Rattle.walk_state.proofs.Walk.place.Goals as goal

pub returns : goal.returns
returns c = own-place c.args.self (search rules)
