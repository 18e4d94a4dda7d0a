use Prim.Native.Nat.{◌≤◌}
use lib.ListN.{length}
use Rattle.format.specs.Judging.{max_depth}
use Rattle.walk_state.specs.Lent.{walk_at}
use Rattle.walk.specs.Stepping.{Fits}
use Rattle.instalments_go.proofs.Going.{Going}
use Rattle.instalments_go.proofs.go.Given as goal

abbrev pub invariant-loop-items : goal.invariant-loop-items
invariant-loop-items l =
    max_depth ≤ length l.initial.slots → Fits l.form l.s (walk_at l.initial.slots l.initial.q) → Going l.form l.s l.budget l.initial.slots l.initial.q l.slots l.q l.items
