-- `walk_of` meets its contract. Assumes nothing.
use borrow.Author.Rules.{rules}
use Rattle.exports_values.specs.Lent.{walk_of}
use Rattle.exports_state.proofs.walk_of.Goals as goal

pub returns : goal.returns
unfolding walk_of
returns c = search rules
