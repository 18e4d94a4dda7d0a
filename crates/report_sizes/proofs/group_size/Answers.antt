use native.Mathlib.Omega.{arith}
use Rattle.report_sizes.proofs.group_size.Goals as goal

pub returns-then-clean-at : goal.returns-then-clean-at
returns-then-clean-at c = (omega arith, λ l p. absurd (omega arith))

pub returns-then-all-at : goal.returns-then-all-at
returns-then-all-at c = (omega arith, λ l p. absurd (omega arith))

pub returns-then-all-at-2 : goal.returns-then-all-at-2
returns-then-all-at-2 c = (omega arith, λ l p. absurd (omega arith))

pub returns : goal.returns
returns c = (omega (arith, c.units-all.ensures, c.if-all-at-2.false), λ l p. (c.small-g.ensures l, c.if-clean-at.false, omega (arith, c.units-all.ensures, c.if-all-at.false, c.if-all-at-2.false)))
