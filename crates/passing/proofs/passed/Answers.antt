-- `passed` meets its contract. Assumes nothing.
use mathlib.Core.Bool.{true, false}
use Rattle.passing.proofs.Laws.{no-report, by-report}
use Rattle.passing.proofs.passed.Goals as goal

pub returns-in_default : goal.returns-in_default
returns-in_default c = no-report _ c.in_default.ensures

pub returns-then-is_some : goal.returns-then-is_some
returns-then-is_some c = by-report _ _ c.in-Some.ensures true c.if-is_some.ensures

pub returns : goal.returns
returns c = rw c.is_passed-passed.ensures (by-report _ _ c.in-Some.ensures false c.if-is_some.ensures)
