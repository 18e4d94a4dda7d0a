use Rattle.comparison.specs.Passing.{Passing}
use Rattle.comparison.proofs.passes.Given as goal

abbrev pub invariant-loop-i : goal.invariant-loop-i
invariant-loop-i l = Passing l.file l.report l.n l.i l.k
