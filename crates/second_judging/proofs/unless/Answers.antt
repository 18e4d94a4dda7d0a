-- `second_judging::unless` meets its contract. Assumes nothing.
use Rattle.second_judging.proofs.Judging.{unless-wrong, unless-right, unless-stands}
use Rattle.second_judging.proofs.unless.Goals as goal

pub returns-then-not-right : goal.returns-then-not-right
returns-then-not-right c = search unless-wrong

pub returns-else-not-right : goal.returns-else-not-right
returns-else-not-right c = search unless-right

pub returns-in_default : goal.returns-in_default
returns-in_default c = search unless-stands
