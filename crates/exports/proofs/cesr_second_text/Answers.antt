-- `cesr_second_text` meets its contract. Assumes nothing.
use Rattle.exports.proofs.cesr_second_text.Goals as goal

pub returns : goal.returns
returns c =
    let t = c.report_text-outcome in
    record { value = rw (← t.ensures.value) c.reported.ensures.value; answer_after = rw (← t.ensures.value) c.reported.ensures.answer_after; out_after = rw (← t.ensures.value) t.ensures.out_after }
