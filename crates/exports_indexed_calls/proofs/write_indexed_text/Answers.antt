-- `exports_indexed_calls::write_indexed_text` meets its contract. Assumes nothing.
use Rattle.exports_indexed_calls.proofs.write_indexed_text.Goals as goal

pub returns : goal.returns
returns c =
    let t = c.write_indexed_text-outcome in
    record { value = rw (← t.ensures.value) c.text_written.ensures.value; answer_after = rw (← t.ensures.value) c.text_written.ensures.answer_after; out_after = rw (← t.ensures.value) t.ensures.out_after }
