-- `cesr_write_text` meets its contract. Assumes nothing.
use Rattle.exports.proofs.cesr_write_text.Goals as goal

pub returns : goal.returns
returns c =
    let t = c.write_text-outcome in
    record { value = rw (← c.code_from-code.ensures, ← t.ensures.value) c.text_written.ensures.value; answer_after = rw (← c.code_from-code.ensures, ← t.ensures.value) c.text_written.ensures.answer_after; out_after = rw (← c.code_from-code.ensures, ← t.ensures.value) t.ensures.out_after }
