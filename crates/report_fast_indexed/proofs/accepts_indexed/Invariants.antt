use Prim.Native.Nat.{◌-◌}
use mathlib.Core.Bool.{true}
use Rattle.report_fast_laws.specs.Fast.{Reach}
use Rattle.report_fast_laws.specs.Laws.{Going}
use Rattle.report_fast_indexed.proofs.accepts_indexed.Given as goal

abbrev pub invariant-loop-i : goal.invariant-loop-i
invariant-loop-i l = Reach l.form l.s l.at l.stop → Going l.form l.tables l.s true l.levels l.first l.at l.stop l.ruled l.i

abbrev pub decreases-loop-i : goal.decreases-loop-i
decreases-loop-i l = l.stop - l.i
