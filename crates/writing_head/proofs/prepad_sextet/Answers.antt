use borrow.Author.Tests.{eq-eqb, ne_eqb}
use Rattle.writing_head.proofs.prepad_sextet.Goals as goal

pub returns-then-prepad-eq0 : goal.returns-then-prepad-eq0
returns-then-prepad-eq0 c = rw (eq-eqb _ _ c.if-prepad-eq0.true)

pub returns-else-prepad-eq0 : goal.returns-else-prepad-eq0
returns-else-prepad-eq0 c = rw (ne_eqb _ _ c.if-prepad-eq0.false)
