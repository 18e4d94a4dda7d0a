-- `runs_binary::marks_binary` meets its contract. Assumes nothing.
use Rattle.runs_binary.proofs.Laws.{marks-unit, marks-past}
use borrow.Author.Rules.{rules}
use Rattle.runs_binary.proofs.marks_binary.Goals as goal

pub returns-then-s-at : goal.returns-then-s-at
returns-then-s-at c = marks-past _ _ c.if-s-at.true

pub returns : goal.returns
returns c = marks-unit _ _ (search rules) (c.unit.ensures (λ a b c d. b))
