-- `exports_written::binary_written` meets its contract. Assumes nothing.
use Rattle.exports_values.specs.Answers.{binary_written_number, binary_written_value}
use Rattle.exports_written.proofs.binary_written.Goals as goal

pub returns-in-Ok : goal.returns-in-Ok
unfolding binary_written_number binary_written_value
returns-in-Ok c =
    let g = c.in-Ok.is in
    record { value = rw g; answer_after = rw g }

pub returns-in-Err : goal.returns-in-Err
unfolding binary_written_number binary_written_value
returns-in-Err c =
    let g = c.in-Err.is in
    record { value = rw g; answer_after = rw g }
