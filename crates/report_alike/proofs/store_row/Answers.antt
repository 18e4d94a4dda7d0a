use Rattle.report_alike.specs.Alike.{row-stored}
use borrow.Author.Rules.{rules}
use Rattle.report_alike.proofs.store_row.Goals as goal

pub returns : goal.returns
returns c = search (row-stored, rules)
