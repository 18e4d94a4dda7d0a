use Prim.Native.Nat.{◌-◌, ◌≤◌}
use Rattle.convert_pack.specs.Left.{Packed}
use Rattle.convert_pack.proofs.pack_by_pairs.Given as goal

abbrev pub invariant-loop-i : goal.invariant-loop-i
invariant-loop-i l = (l.i ≤ l.n) × Packed l.i l.src l.initial.dst l.dst

abbrev pub decreases-loop-i : goal.decreases-loop-i
decreases-loop-i l = l.n - l.i
