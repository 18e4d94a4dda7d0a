use Rattle.std.proofs.Common.{◌-◌}
use Rattle.format.specs.Units.{binary_sextets}
use Rattle.runs.specs.Plain.{group_at}
use Rattle.runs.specs.Nesting.{Left}
use Rattle.runs_binary.proofs.nested_binary.Given as goal

abbrev pub invariant-loop-n : goal.invariant-loop-n
invariant-loop-n l = Left (group_at (binary_sextets l.s)) l.stop l.most l.at l.all (l.all - l.most) (l.all - l.n)
