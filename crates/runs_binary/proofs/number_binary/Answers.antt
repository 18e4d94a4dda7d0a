-- `runs_binary::number_binary` meets its contract. Assumes nothing.
use Rattle.runs_binary.proofs.Laws.{binary-past, number-unit}
use borrow.Author.Rules.{rules}
use Rattle.runs_binary.proofs.number_binary.Goals as goal

pub returns-then-s-at : goal.returns-then-s-at
returns-then-s-at c = binary-past _ _ _ c.if-s-at.true

pub returns : goal.returns
returns c = number-unit _ _ (search rules) (search rules)
