-- `groups_order::within` meets its contract. Assumes nothing.
use Rattle.groups_order.proofs.Laws.{into}
use Rattle.groups_order.proofs.within.Goals as goal

pub returns : goal.returns
returns c =
    into _ _ _ _ _ _ c.new.ensures c.is_overrideable-first.ensures c.is_indexed-indexed.ensures c.step.ensures
