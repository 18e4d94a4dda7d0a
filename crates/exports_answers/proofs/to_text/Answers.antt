-- `exports_answers::to_text` meets its contract. Assumes nothing.
use Rattle.format.specs.Conversion.{to_text_number, to_text_value}
use Rattle.exports_answers.proofs.to_text.Goals as goal

pub returns-in-Ok : goal.returns-in-Ok
unfolding to_text_number to_text_value
returns-in-Ok c =
    let g = c.in-Ok.is in
    record { value = rw g; answer_after = rw g }

pub returns-in-Err : goal.returns-in-Err
unfolding to_text_number to_text_value
returns-in-Err c =
    let g = c.in-Err.is in
    record { value = rw g; answer_after = rw g }
