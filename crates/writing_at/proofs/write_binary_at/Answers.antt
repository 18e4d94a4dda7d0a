use Rattle.writing_at.proofs.Cursors.{binary-fits, binary-behind, binary-at-refused, binary-at-written}
use Rattle.writing_at.proofs.write_binary_at.Goals as goal

pub overflow_add-result : goal.overflow_add-result
overflow_add-result c = search binary-fits

pub returns-in-Err : goal.returns-in-Err
returns-in-Err c = record { value = search binary-at-refused; out_after = search binary-behind }

pub returns-in-Ok : goal.returns-in-Ok
returns-in-Ok c = record { value = search binary-at-written; out_after = search binary-behind }
