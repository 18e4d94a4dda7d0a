-- `exports_answers::to_binary` meets its contract. Assumes nothing.
use Rattle.format.specs.Conversion.{to_binary_number, to_binary_value}
use Rattle.exports_answers.proofs.to_binary.Goals as goal

pub returns-in-Ok : goal.returns-in-Ok
unfolding to_binary_number to_binary_value
returns-in-Ok c =
    let g = c.in-Ok.is in
    record { value = rw g; answer_after = rw g }

pub returns-in-Err : goal.returns-in-Err
unfolding to_binary_number to_binary_value
returns-in-Err c =
    let g = c.in-Err.is in
    record { value = rw g; answer_after = rw g }
