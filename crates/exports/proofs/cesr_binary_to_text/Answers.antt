-- `cesr_binary_to_text` meets its contract. Assumes nothing.
use Rattle.exports.proofs.cesr_binary_to_text.Goals as goal

pub returns : goal.returns
returns c =
    let t = c.binary_to_text-outcome in
    record { value = rw (← t.ensures.value) c.to_text.ensures.value; answer_after = rw (← t.ensures.value) c.to_text.ensures.answer_after; dst_after = rw (← t.ensures.value) t.ensures.dst_after }
