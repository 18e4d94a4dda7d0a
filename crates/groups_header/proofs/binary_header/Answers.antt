-- `groups_header::binary_header` meets its contract: one unit packed, or two. Assumes nothing.
use Rattle.groups_header.proofs.Laws.{binary-small, binary-large}
use borrow.Author.Rules.{rules}
use Rattle.groups_header.proofs.binary_header.Goals as goal

pub returns-then-n-le-SMALL : goal.returns-then-n-le-SMALL
returns-then-n-le-SMALL c = binary-small _ _ _ _ (search rules) c.first_unit.ensures c.pack-a.ensures

pub returns : goal.returns
returns c =
    binary-large _ _ _ _ _ _ (search rules) c.first_unit.ensures c.pack-a.ensures c.second_unit.ensures
    c.pack-b.ensures
