use Rattle.report_followers.proofs.Laws.{units-run}
use Rattle.report_followers.proofs.run_units.Goals as goal

pub returns : goal.returns
returns c = search units-run
