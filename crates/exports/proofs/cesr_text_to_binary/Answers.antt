-- `cesr_text_to_binary` meets its contract. Assumes nothing.
use Rattle.exports.proofs.cesr_text_to_binary.Goals as goal

pub returns : goal.returns
returns c =
    let t = c.text_to_binary-outcome in
    record { value = rw (← t.ensures.value) c.to_binary.ensures.value; answer_after = rw (← t.ensures.value) c.to_binary.ensures.answer_after; dst_after = rw (← t.ensures.value) t.ensures.dst_after }
