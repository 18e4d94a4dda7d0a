use Prim.Native.Nat.{◌-◌}
use lib.ListN.{length}
use Rattle.mixed_count.proofs.Laws.{Counted}
use Rattle.mixed_count.proofs.count.Given as goal

abbrev pub invariant-loop-at : goal.invariant-loop-at
invariant-loop-at l = Counted l.tables l.s l.known l.to l.at l.i

abbrev pub decreases-loop-at : goal.decreases-loop-at
decreases-loop-at l = length l.s - l.at
