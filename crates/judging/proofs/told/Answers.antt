use Rattle.judging.specs.Own.{told_by}
use Rattle.judging.proofs.told.Goals as goal

pub returns-in-Accepted : goal.returns-in-Accepted
unfolding told_by
returns-in-Accepted c = rw c.in-Accepted.is

pub returns-in-Refused : goal.returns-in-Refused
unfolding told_by
returns-in-Refused c = rw c.in-Refused.is
