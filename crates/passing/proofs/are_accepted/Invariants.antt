use Rattle.passing.specs.Looked.{Looked}
use Rattle.passing.proofs.are_accepted.Given as goal

abbrev pub invariant-loop-i : goal.invariant-loop-i
invariant-loop-i l = Looked l.report l.n l.i
