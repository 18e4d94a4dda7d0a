-- `groups_order::is_group` meets its contract. Assumes nothing.
use mathlib.Core.Path.{refl}
use Rattle.format.specs.Registry.{is_group}
use Rattle.groups_order.proofs.is_group.Goals as goal

pub returns : goal.returns
unfolding is_group
returns c = refl
