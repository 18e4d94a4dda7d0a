use Prim.Native.Nat.{◌-◌}
use Rattle.report_alike.specs.Alike.{Stored}
use Rattle.report_alike.proofs.store_alike.Given as goal

abbrev pub invariant-loop-p : goal.invariant-loop-p
invariant-loop-p l = Stored l.form l.values l.s l.x l.limit l.size l.from l.end l.initial.out l.at l.out l.p l.r

abbrev pub decreases-loop-p : goal.decreases-loop-p
decreases-loop-p l = l.end - l.p
