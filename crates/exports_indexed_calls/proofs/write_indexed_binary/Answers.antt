-- `exports_indexed_calls::write_indexed_binary` meets its contract. Assumes nothing.
use Rattle.exports_indexed_calls.proofs.write_indexed_binary.Goals as goal

pub returns : goal.returns
returns c =
    let t = c.write_indexed_binary-outcome in
    record { value = rw (← t.ensures.value) c.binary_written.ensures.value; answer_after = rw (← t.ensures.value) c.binary_written.ensures.answer_after; out_after = rw (← t.ensures.value) t.ensures.out_after }
