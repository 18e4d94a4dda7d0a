-- `groups_header::head_units` meets its contract. Assumes nothing.
use Rattle.groups_header.proofs.Laws.{small_units, large-units}
use borrow.Author.Rules.{rules}
use Rattle.groups_header.proofs.head_units.Goals as goal

pub returns-then-n-le-SMALL : goal.returns-then-n-le-SMALL
returns-then-n-le-SMALL c = small_units _ (search rules)

pub returns-else-n-le-SMALL : goal.returns-else-n-le-SMALL
returns-else-n-le-SMALL c = large-units _ (search rules)
