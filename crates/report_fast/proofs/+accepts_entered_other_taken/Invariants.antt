-- The loop over a group's items, the step that takes the next one, the same of an item that its first units do not tell, and the step
-- into a group of its kind; both steps go to the loop for a group's contents, one level further in.
use Rattle.std.proofs.Common.{◌+◌, ◌-◌, ◌*◌, false}
use Rattle.report_fast_laws.specs.Laws.{Going}
use Rattle.report_fast.proofs.+accepts_entered_other_taken.Given as goal

abbrev pub decreases-accepts : goal.decreases-accepts
decreases-accepts l = 4 * l.levels + 3

abbrev pub decreases-entered : goal.decreases-entered
decreases-entered l = 4 * l.levels + 4

abbrev pub decreases-other : goal.decreases-other
decreases-other l = 4 * l.levels + 1

abbrev pub decreases-taken : goal.decreases-taken
decreases-taken l = 4 * l.levels + 2

abbrev pub invariant-accepts-loop-i : goal.invariant-accepts-loop-i
invariant-accepts-loop-i l = Going l.form l.tables l.s false l.levels l.first l.at l.stop l.ruled l.i

abbrev pub decreases-accepts-loop-i : goal.decreases-accepts-loop-i
decreases-accepts-loop-i l = l.stop - l.i
