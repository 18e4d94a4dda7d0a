use borrow.Author.Tests.{eq-eqb, ne_eqb}
use Rattle.format.specs.Judging.{prepad_right}
use Rattle.judging_fixed.proofs.prepad_right.Goals as goal

pub returns-then-prepad-eq0 : goal.returns-then-prepad-eq0
unfolding prepad_right
returns-then-prepad-eq0 c = simp (eq-eqb _ _ c.if-prepad-eq0.true)

pub returns-else-prepad-eq0 : goal.returns-else-prepad-eq0
unfolding prepad_right
returns-else-prepad-eq0 c = simp (ne_eqb _ _ c.if-prepad-eq0.false, c.sextet_at.ensures)
