-- `report_last::put_end` meets its contract. Assumes nothing.
use Rattle.report_last.proofs.Laws.{whole-few, rest-few, last-by}
use borrow.Author.Rules.{rules}
use Rattle.report_last.proofs.put_end.Goals as goal

pub put_counts-requires : goal.put_counts-requires
put_counts-requires c = search (whole-few, rules)

pub put_rest-requires : goal.put_rest-requires
put_rest-requires c = search (rest-few, rules)

pub returns-in-Whole : goal.returns-in-Whole
returns-in-Whole c = search last-by

pub returns-in-Rest : goal.returns-in-Rest
returns-in-Rest c = search last-by
