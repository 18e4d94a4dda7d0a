-- `cesr_read_text` meets its contract. Assumes nothing.
use Rattle.exports_values.specs.Answers.{text_found_number, text_found_value, text_tag_left, text_info_left}
use Rattle.exports.proofs.cesr_read_text.Goals as goal

pub returns-in-Ok : goal.returns-in-Ok
unfolding text_found_number text_found_value text_tag_left text_info_left
returns-in-Ok c =
    let t = c.read_text-read in
    let g = c.in-Ok.is in
    record { value = rw (← t.ensures.value) (rw g); answer_after = rw (← t.ensures.value) (rw g c.value_size.ensures); out_after = rw (← t.ensures.value) t.ensures.out_after; tag_after = rw (← t.ensures.value) (rw g); info_after = rw (← t.ensures.value) (rw g c.info_of-numbers.ensures) }

pub returns-in-Err : goal.returns-in-Err
unfolding text_found_number text_found_value text_tag_left text_info_left
returns-in-Err c =
    let t = c.read_text-read in
    let g = c.in-Err.is in
    record { value = rw (← t.ensures.value) (rw g); answer_after = rw (← t.ensures.value) (rw g); out_after = rw (← t.ensures.value) t.ensures.out_after; tag_after = rw (← t.ensures.value) (rw g); info_after = rw (← t.ensures.value) (rw g) }
