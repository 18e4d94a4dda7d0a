-- `groups_order::head_size` meets its contract. Assumes nothing.
use mathlib.Core.Path.{ap, ◌∙◌}
use Rattle.groups.specs.Grouping.{head_units}
use Rattle.groups_order.proofs.Laws.{head-sized, head-fits}
use Rattle.groups_order.proofs.head_size.Goals as goal

pub overflow_mul-result : goal.overflow_mul-result
overflow_mul-result c = head-fits c.args.form _ _ _ (c.head_units.ensures ∙ ap head_units c.units-n.ensures) c.unit.ensures

pub returns : goal.returns
returns c = head-sized c.args.form _ _ _ (c.head_units.ensures ∙ ap head_units c.units-n.ensures) c.unit.ensures
