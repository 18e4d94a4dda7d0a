-- `cesr_write_binary` meets its contract. Assumes nothing.
use Rattle.exports.proofs.cesr_write_binary.Goals as goal

pub returns : goal.returns
returns c =
    let t = c.write_binary-outcome in
    record { value = rw (← c.code_from-code.ensures, ← t.ensures.value) c.binary_written.ensures.value; answer_after = rw (← c.code_from-code.ensures, ← t.ensures.value) c.binary_written.ensures.answer_after; out_after = rw (← c.code_from-code.ensures, ← t.ensures.value) t.ensures.out_after }
