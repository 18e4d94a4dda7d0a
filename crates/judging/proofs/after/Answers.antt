use Rattle.format.specs.Judging.{and_then}
use Rattle.judging.proofs.after.Goals as goal

pub returns-in-Accepted : goal.returns-in-Accepted
unfolding and_then
returns-in-Accepted c = rw c.in-Accepted.is

pub returns-in-Refused : goal.returns-in-Refused
unfolding and_then
returns-in-Refused c = rw c.in-Refused.is
