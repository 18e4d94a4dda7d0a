-- `exports_answers::reported` meets its contract. Assumes nothing.
use Rattle.format.specs.Report.{report_number, report_value}
use Rattle.exports_answers.proofs.reported.Goals as goal

pub returns-in-Ok : goal.returns-in-Ok
unfolding report_number report_value
returns-in-Ok c =
    let g = c.in-Ok.is in
    record { value = rw g; answer_after = rw g }

pub returns-in-Err : goal.returns-in-Err
unfolding report_number report_value
returns-in-Err c =
    let g = c.in-Err.is in
    record { value = rw g; answer_after = rw g }
