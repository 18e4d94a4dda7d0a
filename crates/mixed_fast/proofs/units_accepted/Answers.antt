-- `mixed_fast::units_accepted` meets its contract. Assumes nothing.
use Rattle.mixed_fast.proofs.Laws.{by-group, by_first, nothing}
use Rattle.mixed_fast.proofs.units_accepted.Goals as goal

pub returns-then-group_accepted : goal.returns-then-group_accepted
returns-then-group_accepted c = search by-group

pub returns-then-not-signed : goal.returns-then-not-signed
returns-then-not-signed c = search nothing

pub returns : goal.returns
returns c = search by_first
