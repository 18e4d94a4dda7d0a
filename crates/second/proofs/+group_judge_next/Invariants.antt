-- An item framed and judged, an item by its kind, and a group's items one by one: the cycle. A group goes to its items one level further in.
use Rattle.std.proofs.Common.{◌+◌, ◌-◌, ◌*◌, length}
use Rattle.format.specs.Judging.{max_depth}
use Rattle.second.proofs.Groups.{Left}
use Rattle.second.proofs.+group_judge_next.Given as goal

abbrev pub decreases-group : goal.decreases-group
decreases-group l = 3 * (max_depth - l.depth)

abbrev pub decreases-judge : goal.decreases-judge
decreases-judge l = 3 * (max_depth - l.depth) + 1

abbrev pub decreases-next : goal.decreases-next
decreases-next l = 3 * (max_depth - l.depth) + 2

abbrev pub invariant-group-loop-start : goal.invariant-group-loop-start
invariant-group-loop-start l = Left l.letter l.head l.t l.depth l.indexed l.asked l.start

abbrev pub decreases-group-loop-start : goal.decreases-group-loop-start
decreases-group-loop-start l = length l.t - 4 * l.start
