-- `exports_indexed_calls::read_indexed_text` meets its contract. Assumes nothing.
use Rattle.exports_indexed.specs.Answers.{text_number, text_value, text_info}
use Rattle.exports_indexed_calls.proofs.read_indexed_text.Goals as goal

pub returns-in-Ok : goal.returns-in-Ok
unfolding text_number text_value text_info
returns-in-Ok c =
    let t = c.read_indexed_text-read in
    let g = c.in-Ok.is in
    record { value = rw (← t.ensures.value) (rw g); answer_after = rw (← t.ensures.value) (rw g); out_after = rw (← t.ensures.value) t.ensures.out_after; info_after = rw (← t.ensures.value) (rw g c.info_of-numbers.ensures) }

pub returns-in-Err : goal.returns-in-Err
unfolding text_number text_value text_info
returns-in-Err c =
    let t = c.read_indexed_text-read in
    let g = c.in-Err.is in
    record { value = rw (← t.ensures.value) (rw g); answer_after = rw (← t.ensures.value) (rw g); out_after = rw (← t.ensures.value) t.ensures.out_after; info_after = rw (← t.ensures.value) (rw g) }
