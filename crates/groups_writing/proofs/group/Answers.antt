-- `groups_writing::group` meets its contract: what was answered, and the buffer of a group or of a refusal. Assumes nothing.
use Rattle.groups_writing.proofs.Laws.{is-written, is-refused}
use Rattle.groups_writing.proofs.group.Goals as goal

pub returns-in-Ok : goal.returns-in-Ok
returns-in-Ok c =
    let a = c.args in
    let told = is-written a.form a.letter a.len a.buf.now _ c.answer-told.ensures _ c.in-Ok.is _ _ c.sextet.ensures c.put_group.ensures in record { value = told.0; buf_after = told.1 }

pub returns-in-Err : goal.returns-in-Err
returns-in-Err c =
    let a = c.args in
    let told = is-refused a.form a.letter a.len a.buf.now _ c.answer-told.ensures _ _ c.in-Err.is in record { value = told.0; buf_after = told.1 }
