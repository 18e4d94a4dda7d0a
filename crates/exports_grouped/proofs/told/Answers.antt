-- `exports_grouped::told` meets its contract. Assumes nothing.
use Rattle.groups.specs.Numbers.{grouped_number, grouped_value}
use Rattle.exports_grouped.proofs.told.Goals as goal

pub returns-in-Ok : goal.returns-in-Ok
unfolding grouped_number grouped_value
returns-in-Ok c =
    let g = c.in-Ok.is in
    record { value = rw g; answer_after = rw g }

pub returns-in-Err : goal.returns-in-Err
unfolding grouped_number grouped_value
returns-in-Err c =
    let g = c.in-Err.is in
    record { value = rw g; answer_after = rw g }
