-- `cesr_compare` meets its contract. Assumes nothing.
use Rattle.exports.proofs.cesr_compare.Goals as goal

pub returns : goal.returns
returns c = record { value = rw (← c.compare-found.ensures) c.compared.ensures.value; answer_after = rw (← c.compare-found.ensures) c.compared.ensures.answer_after }
