use Rattle.report.proofs.Laws.{reads}
use Rattle.report.proofs.report.Goals as goal

pub report_by-requires : goal.report_by-requires
report_by-requires c = search reads
