use Rattle.report_fast_laws.specs.Laws.{by_first, nothing}
use Rattle.report_fast.proofs.accepted_within.Goals as goal

pub returns-then-v-gt0 : goal.returns-then-v-gt0
returns-then-v-gt0 c = c.valued-v.ensures.1 c.requires.0 _ _

pub returns-then-stop-at : goal.returns-then-stop-at
returns-then-stop-at c = search nothing

pub returns-then-k-gt0 : goal.returns-then-k-gt0
returns-then-k-gt0 c = search by_first
