-- `runs_binary::signed_binary` meets its contract. Assumes nothing.
use Rattle.runs_binary.proofs.Laws.{signed-unit, signed-past}
use borrow.Author.Rules.{rules}
use Rattle.runs_binary.proofs.signed_binary.Goals as goal

pub returns-then-s-at : goal.returns-then-s-at
returns-then-s-at c = signed-past _ _ c.if-s-at.true

pub returns : goal.returns
returns c = signed-unit _ _ (search rules) (c.unit.ensures (λ a b c d. b)) _ (search rules) _ c.is_signed.ensures
