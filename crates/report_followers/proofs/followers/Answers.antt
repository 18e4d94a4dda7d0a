use Rattle.report_followers.proofs.Laws.{followed}
use Rattle.report_followers.proofs.followers.Goals as goal

pub returns : goal.returns
returns c = search followed
