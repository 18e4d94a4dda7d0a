use Prim.Native.Nat.{◌+◌, ◌-◌, ◌<◌, ◌≤◌}
use Rattle.convert_unpack_units.specs.Numbers.{Twelve}
use Rattle.convert_unpack_units.specs.First.{Unpacked}
use Rattle.convert_unpack_units.proofs.unpack_by_pairs.Given as goal

abbrev pub invariant-loop-i : goal.invariant-loop-i
invariant-loop-i l = (l.i + 4 ≤ l.n) × Unpacked l.i l.src l.initial.dst l.dst × Twelve l.src l.i l.w l.v × (l.v < 4294967296)

abbrev pub decreases-loop-i : goal.decreases-loop-i
decreases-loop-i l = l.n - l.i
