-- `groups_writing::group_text` meets its contract. Assumes nothing.
use Rattle.groups_writing.proofs.Laws.{text-written, text-refused}
use Rattle.groups_writing.proofs.group_text.Goals as goal

pub returns-in-Ok : goal.returns-in-Ok
returns-in-Ok c = record { value = text-written _ _ c.group.ensures.value _ c.in-Ok.is; buf_after = c.group.ensures.buf_after }

pub returns-in-Err : goal.returns-in-Err
returns-in-Err c = record { value = text-refused _ _ c.group.ensures.value _ _ c.in-Err.is; buf_after = c.group.ensures.buf_after }
