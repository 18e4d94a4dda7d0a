-- `walk_state::Walk::close_finished` meets its contract. Assumes nothing.
use mathlib.Core.Path.{ap, ◌∙◌}
use Rattle.walk_state.specs.Moving.{finished}
use Rattle.walk_state.proofs.Lent.{own-moved}
use borrow.Author.Rules.{rules}
use Rattle.walk_state.proofs.Walk.close_finished.Goals as goal

pub returns : goal.returns
returns c = own-moved (search rules) c.finish-p.ensures ∙ ap finished c.place.ensures
