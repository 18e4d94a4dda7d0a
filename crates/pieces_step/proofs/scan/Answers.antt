-- `pieces_step::scan` meets its contract. Assumes nothing.
use mathlib.Core.Path.{◌∙◌}
use Rattle.pieces_step.proofs.Laws.{scan-first, scan-second, scan-third, scan-fourth, scan-clean}
use borrow.Author.Rules.{rules}
use Rattle.pieces_step.proofs.scan.Goals as goal

pub returns-then-q-ge64 : goal.returns-then-q-ge64
returns-then-q-ge64 c = c.strange.ensures ∙ search (scan-first, rules)

pub returns-then-q-ge64-2 : goal.returns-then-q-ge64-2
returns-then-q-ge64-2 c = c.strange-then-q-ge64-2.ensures ∙ search (scan-second, rules)

pub returns-then-q-ge64-3 : goal.returns-then-q-ge64-3
returns-then-q-ge64-3 c = c.strange-then-q-ge64-3.ensures ∙ search (scan-third, rules)

pub returns-then-q-ge64-4 : goal.returns-then-q-ge64-4
returns-then-q-ge64-4 c = c.strange-then-q-ge64-4.ensures ∙ search (scan-fourth, rules)

pub returns : goal.returns
returns c = search (scan-clean, rules)
