use mathlib.Core.Path.{refl}
use Rattle.format.specs.Report.{report_left}
use Rattle.report.proofs.Laws.{too_long}
use Rattle.report.proofs.report_binary.Goals as goal

pub returns-then-s-gt3145728 : goal.returns-then-s-gt3145728
unfolding report_left
returns-then-s-gt3145728 c = record { value = search too_long; out_after = refl }
