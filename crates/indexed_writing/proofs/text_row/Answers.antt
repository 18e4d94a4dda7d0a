-- `indexed_writing::text_row` meets its contract: the row's size and first bytes. Assumes nothing.
use Rattle.indexed_writing.proofs.text_row.Goals as goal

pub returns : goal.returns
returns c =
    let w = c.text_item.ensures in
    record { value = rw c.units_of-units.ensures.0 at w.value; out_after = rw (c.units_of-units.ensures.0, c.head_bytes-head.ensures) at w.out_after }
