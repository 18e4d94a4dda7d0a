use Rattle.std.proofs.Common.{◌-◌}
use Rattle.runs.specs.Plain.{group_by}
use Rattle.runs.specs.Nesting.{Left}
use Rattle.runs_text_groups.proofs.nested_text.Given as goal

abbrev pub invariant-loop-n : goal.invariant-loop-n
invariant-loop-n l = Left (group_by l.values l.classes 1 l.s) l.stop l.most l.at l.all (l.all - l.most) (l.all - l.n)
