-- `mixed_known::first_unknown` meets its contract. Assumes nothing.
use Rattle.mixed_known.proofs.Laws.{known_from, sum_fits}
use borrow.Author.Rules.{rules}
use Rattle.mixed_known.proofs.first_unknown.Goals as goal

pub overflow_add-result : goal.overflow_add-result
overflow_add-result c = let x = c.args in sum_fits x.s.now x.at _ c.first_stranger.ensures (search rules) (search rules)

pub returns : goal.returns
returns c = let x = c.args in known_from x.s.now x.at _ c.first_stranger.ensures
