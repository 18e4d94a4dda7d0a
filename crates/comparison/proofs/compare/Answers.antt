-- `compare` meets its contract. Assumes nothing.
use Rattle.comparison.proofs.Laws.{no-file, no-report, both_say}
use borrow.Author.Rules.{rules}
use Rattle.comparison.proofs.compare.Goals as goal

pub returns-in_default : goal.returns-in_default
returns-in_default c = rw c.malformed.ensures (no-file _ _ c.in_default.ensures)

pub returns-in_default-of_report : goal.returns-in_default-of_report
returns-in_default-of_report c = search (no-report, rules)

pub returns : goal.returns
returns c = rw c.counts.ensures (both_say _ _ _ _ c.in-Some.ensures c.in-Some-of_report.ensures _ c.agreed-agree.ensures)
