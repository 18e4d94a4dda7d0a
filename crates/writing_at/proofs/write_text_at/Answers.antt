use Rattle.writing_at.proofs.Cursors.{text-fits, text-behind, text-at-refused, text-at-written}
use Rattle.writing_at.proofs.write_text_at.Goals as goal

pub overflow_add-result : goal.overflow_add-result
overflow_add-result c = search text-fits

pub returns-in-Err : goal.returns-in-Err
returns-in-Err c = record { value = search text-at-refused; out_after = search text-behind }

pub returns-in-Ok : goal.returns-in-Ok
returns-in-Ok c = record { value = search text-at-written; out_after = search text-behind }
