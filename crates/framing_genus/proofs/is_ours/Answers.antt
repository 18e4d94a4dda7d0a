use lib.ListN.{get_or}
use Rattle.framing_genus.proofs.Laws.{six-digits}
use Rattle.framing_genus.proofs.is_ours.Goals as goal

pub returns : goal.returns
returns c = six-digits (λ i. get_or c.args.cs i 0) _ _ c.number-high.ensures.0 c.number-low.ensures.0
