use Rattle.report_turn.proofs.Laws.{in_parts}
use Rattle.report_turn.proofs.put_taken.Goals as goal

pub returns : goal.returns
returns c = search in_parts
