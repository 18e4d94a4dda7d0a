use Rattle.std.proofs.Common.{ℕ, List}
use Rattle.convert_unpack_units.specs.First.{Unpacked}
use Rattle.convert_unpack_units.proofs.unpack_rest.Given as goal

abbrev pub invariant-loop-i : goal.invariant-loop-i
invariant-loop-i l = (o : List ℕ) → Unpacked l.done l.src o l.initial.dst → Unpacked l.i l.src o l.dst
