-- The loop over a group's items and the step that judges the next one whole, which goes through the loop for the contents of a group.
-- A step at some levels goes to the loop one level further in.
use Rattle.std.proofs.Common.{◌+◌, ◌-◌, ◌*◌}
use Rattle.format.specs.Units.{domain}
use Rattle.report_item.proofs.Laws.{Left}
use Rattle.report_item.proofs.+level_whole.Given as goal

abbrev pub decreases-level : goal.decreases-level
decreases-level l = 2 * l.levels + 1

abbrev pub decreases-whole : goal.decreases-whole
decreases-whole l = 2 * l.levels

abbrev pub invariant-level-loop-i : goal.invariant-level-loop-i
invariant-level-loop-i l = Left ((domain l.form).sextets l.s) l.indexed l.levels l.first l.at l.stop l.ruled l.i

abbrev pub decreases-level-loop-i : goal.decreases-level-loop-i
decreases-level-loop-i l = l.stop - l.i
