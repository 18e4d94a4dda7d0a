use Rattle.std.proofs.Common.{ℕ, List}
use Rattle.convert_pack.specs.Left.{Packed}
use Rattle.convert_pack.proofs.pack_rest.Given as goal

abbrev pub invariant-loop-i : goal.invariant-loop-i
invariant-loop-i l = (o : List ℕ) → Packed l.done l.src o l.initial.dst → Packed l.i l.src o l.dst
