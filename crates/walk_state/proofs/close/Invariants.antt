use Rattle.walk_state.proofs.Lent.{Closing}
use Rattle.walk_state.proofs.close.Given as goal

abbrev pub invariant-loop-top : goal.invariant-loop-top
invariant-loop-top l = Closing l.initial.slots l.slots l.depth l.at l.top
