-- `mixed_rows::put_item` meets its contract. Assumes nothing.
use Rattle.mixed_rows.proofs.Laws.{item-is}
use borrow.Author.Rules.{rules}
use Rattle.mixed_rows.proofs.put_item.Goals as goal

pub returns : goal.returns
returns c = search (item-is, rules)
