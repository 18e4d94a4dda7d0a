-- `groups_writing::group_binary` meets its contract. Assumes nothing.
use Rattle.groups_writing.proofs.Laws.{binary-written, binary-refused}
use Rattle.groups_writing.proofs.group_binary.Goals as goal

pub returns-in-Ok : goal.returns-in-Ok
returns-in-Ok c = record { value = binary-written _ _ c.group.ensures.value _ c.in-Ok.is; buf_after = c.group.ensures.buf_after }

pub returns-in-Err : goal.returns-in-Err
returns-in-Err c = record { value = binary-refused _ _ c.group.ensures.value _ _ c.in-Err.is; buf_after = c.group.ensures.buf_after }
