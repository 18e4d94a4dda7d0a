use Rattle.pieces_run.proofs.Laws.{Runs}
use Rattle.pieces_run.proofs.run.Given as goal

abbrev pub invariant-loop-k : goal.invariant-loop-k
invariant-loop-k l =
    Runs l.form l.initial.slots l.initial.stage l.held l.count l.piece l.initial.items l.initial.refusals l.k l.slots l.stage l.items l.refusals l.i l.j
