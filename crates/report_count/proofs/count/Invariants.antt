use Prim.Native.Nat.{◌-◌, ◌/◌}
use lib.ListN.{length}
use Rattle.format.specs.Units.{domain}
use Rattle.report_count.proofs.Laws.{Counting}
use Rattle.report_count.proofs.count.Given as goal

abbrev pub invariant-loop-a : goal.invariant-loop-a
invariant-loop-a l = Counting l.form l.tables l.s l.known l.u l.clean l.a l.i

abbrev pub decreases-loop-a : goal.decreases-loop-a
decreases-loop-a l = length l.s / (domain l.form).unit - l.a
