use lib.ListN.{length}
use Prim.Native.Nat.{◌-◌, ◌*◌}
use Rattle.second_report.proofs.Rows.{Reached}
use Rattle.second_report.proofs.report.Given as goal

abbrev pub invariant-loop-start : goal.invariant-loop-start
invariant-loop-start l = Reached l.unit l.s l.t l.n l.initial.out l.out l.start l.i l.k

abbrev pub decreases-loop-start : goal.decreases-loop-start
decreases-loop-start l = length l.t - 4 * l.start
