use lib.ListN.{length}
use Prim.Native.Nat.{◌-◌, ◌*◌}
use Rattle.second_report.proofs.Counts.{Counted}
use Rattle.second_report.proofs.count.Given as goal

abbrev pub invariant-loop-size : goal.invariant-loop-size
invariant-loop-size l = Counted l.t l.start l.n

abbrev pub decreases-loop-size : goal.decreases-loop-size
decreases-loop-size l = length l.t - 4 * l.start
