-- `of_report` meets its contract. Assumes nothing.
use Rattle.expectation.proofs.Laws.{items-short, refusals-short, report-says}
use borrow.Author.Rules.{rules}
use Rattle.expectation.proofs.of_report.Goals as goal

pub returns-in_err-items : goal.returns-in_err-items
returns-in_err-items c = search (items-short, rules)

pub returns-in_err-refusals : goal.returns-in_err-refusals
returns-in_err-refusals c = search (refusals-short _ _ c.in_ok-items.ensures, rules)

pub returns : goal.returns
returns c = report-says _ _ c.in_ok-items.ensures _ c.in_ok-refusals.ensures _ c.last_section.ensures
