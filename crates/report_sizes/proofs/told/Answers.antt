use Rattle.format.specs.Units.{domain}
use native.Mathlib.Omega.{arith}
use Rattle.report_sizes.proofs.Laws.{tells-small, tells-sized}
use Rattle.report_sizes.proofs.told.Goals as goal

pub returns-then-clean-at : goal.returns-then-clean-at
returns-then-clean-at c = λ l K p h. absurd (omega arith)

pub returns-then-g-gt0 : goal.returns-then-g-gt0
returns-then-g-gt0 c = λ l K. tells-small ((domain c.args.form).sextets c.args.s.now) c.args.at c.args.clean _ c.if-clean-at.false K (c.small-g.ensures l)

pub returns : goal.returns
returns c = λ l K. tells-sized ((domain c.args.form).sextets c.args.s.now) c.args.at c.args.clean _ c.if-clean-at.false K (c.sized.ensures l)
