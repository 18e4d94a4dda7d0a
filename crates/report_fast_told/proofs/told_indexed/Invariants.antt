use Prim.Native.Nat.{ℕ, ◌-◌}
use mathlib.Core.Bool.{true, false}
use Rattle.report_fast_laws.specs.Fast.{Reach}
use Rattle.report_fast_laws.specs.Laws.{Going}
use Rattle.report_fast_told.proofs.told_indexed.Given as goal

abbrev pub invariant-loop-i : goal.invariant-loop-i
invariant-loop-i l = Reach l.form l.s l.at l.stop → (levels : ℕ) → Going l.form l.tables l.s true levels false l.at l.stop false l.i

abbrev pub decreases-loop-i : goal.decreases-loop-i
decreases-loop-i l = l.stop - l.i
