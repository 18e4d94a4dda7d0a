-- `exports_instalments::walk_on_text` meets its contract: the form is handed on. Assumes nothing.
use Rattle.exports_instalments.proofs.walk_on_text.Goals as goal

pub returns : goal.returns
returns c = record { value = c.walk_on.ensures.value; answer_after = c.walk_on.ensures.answer_after; after = c.walk_on.ensures.after; state_after = c.walk_on.ensures.state_after }
