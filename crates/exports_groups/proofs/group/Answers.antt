-- `exports_groups::group` meets its contract. Assumes nothing.
use mathlib.Core.Path.{ap, ◌∙◌}
use Rattle.groups.specs.Numbers.{grouped_number, grouped_value}
use Rattle.exports_groups.proofs.group.Goals as goal

pub returns : goal.returns
returns c =
    let t = c.group-outcome in
    record { value = c.told.ensures.value ∙ ap grouped_number t.ensures.value; answer_after = c.told.ensures.answer_after ∙ ap grouped_value t.ensures.value; buf_after = t.ensures.buf_after }
