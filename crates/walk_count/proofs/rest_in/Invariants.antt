use Prim.Native.Nat.{◌-◌}
use Rattle.format.specs.Units.{domain}
use Rattle.walk_claims.specs.Words.{units_in}
use Rattle.walk_count.proofs.Running.{Going}
use Rattle.walk_count.proofs.rest_in.Given as goal

abbrev pub invariant-loop-w : goal.invariant-loop-w
invariant-loop-w l = Going l.form l.s l.initial.w l.w l.items

abbrev pub decreases-loop-w : goal.decreases-loop-w
decreases-loop-w l = units_in (domain l.form) l.s - l.w.at
