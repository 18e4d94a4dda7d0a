use mathlib.Core.Path.{◌≡◌}
use mathlib.Core.Bool.{true}
use Rattle.walk_state.specs.Walking.{all_below, slot_fits}
use Rattle.walk_state.specs.Lent.{slots_in}
use Rattle.walk_fit.proofs.slots_fit.Given as goal

abbrev pub invariant-loop-k : goal.invariant-loop-k
invariant-loop-k l = all_below (slot_fits (slots_in l.slots) l.depth l.n) l.k ≡ true
