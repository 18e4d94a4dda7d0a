-- `groups_header::text_header` meets its contract: one unit, or two. Assumes nothing.
use Rattle.groups_header.proofs.Laws.{text-small, text-large}
use borrow.Author.Rules.{rules}
use Rattle.groups_header.proofs.text_header.Goals as goal

pub returns-then-n-le-SMALL : goal.returns-then-n-le-SMALL
returns-then-n-le-SMALL c = text-small _ _ _ _ (search rules) c.first_unit.ensures c.characters-a.ensures

pub returns : goal.returns
returns c =
    text-large _ _ _ _ _ _ (search rules) c.first_unit.ensures c.characters-a.ensures c.second_unit.ensures
    c.characters-b.ensures
