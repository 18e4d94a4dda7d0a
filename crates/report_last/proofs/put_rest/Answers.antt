-- `report_last::put_rest` meets its contract. Assumes nothing.
use Rattle.report_last.proofs.Laws.{rest_put}
use borrow.Author.Rules.{rules}
use Rattle.report_last.proofs.put_rest.Goals as goal

pub returns : goal.returns
returns c = search (rest_put, rules)
