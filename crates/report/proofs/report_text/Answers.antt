use mathlib.Core.Path.{refl}
use Rattle.format.specs.Report.{report_left}
use Rattle.report.proofs.Laws.{too_long}
use Rattle.report.proofs.report_text.Goals as goal

pub returns-then-s-gt4194304 : goal.returns-then-s-gt4194304
unfolding report_left
returns-then-s-gt4194304 c = record { value = search too_long; out_after = refl }
