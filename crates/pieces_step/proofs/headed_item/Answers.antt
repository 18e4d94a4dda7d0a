-- `pieces_step::headed_item` meets its contract. Assumes nothing.
use Rattle.pieces_step.proofs.Laws.{slotted-by}
use Rattle.pieces_step.proofs.Laws.{item_refused, item_on}
use borrow.Author.Rules.{rules}
use Rattle.pieces_step.proofs.headed_item.Goals as goal

pub returns-then-number-ne0 : goal.returns-then-number-ne0
returns-then-number-ne0 c = search (item_refused, c.refused.ensures)

pub next_place-next-requires : goal.next_place-next-requires
next_place-next-requires c = (search rules, search rules, slotted-by _ _ _ _ _ c.group_number-number.ensures c.if-number-ne0.false, search rules, search rules, search rules)

pub returns : goal.returns
returns c = search item_on
