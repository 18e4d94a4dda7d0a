-- `groups_header::first_unit` meets its contract. Assumes nothing.
use Rattle.groups_header.proofs.Laws.{small-first, large-first}
use borrow.Author.Rules.{rules}
use Rattle.groups_header.proofs.first_unit.Goals as goal

pub returns-then-n-le-SMALL : goal.returns-then-n-le-SMALL
returns-then-n-le-SMALL c = small-first _ _ (search rules)

pub returns : goal.returns
returns c = large-first _ _ (search rules)
