-- `exports_groups::group_text` meets its contract: the form is handed on. Assumes nothing.
use Rattle.exports_groups.proofs.group_text.Goals as goal

pub returns : goal.returns
returns c = record { value = c.group.ensures.value; answer_after = c.group.ensures.answer_after; buf_after = c.group.ensures.buf_after }
