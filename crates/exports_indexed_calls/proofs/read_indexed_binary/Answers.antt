-- `exports_indexed_calls::read_indexed_binary` meets its contract. Assumes nothing.
use Rattle.exports_indexed.specs.Answers.{binary_number, binary_value, binary_info}
use Rattle.exports_indexed_calls.proofs.read_indexed_binary.Goals as goal

pub returns-in-Ok : goal.returns-in-Ok
unfolding binary_number binary_value binary_info
returns-in-Ok c =
    let g = c.in-Ok.is in
    record { value = rw (← c.read_indexed_binary-read.ensures) (rw g); answer_after = rw (← c.read_indexed_binary-read.ensures) (rw g); info_after = rw (← c.read_indexed_binary-read.ensures) (rw g c.info_of-numbers.ensures) }

pub returns-in-Err : goal.returns-in-Err
unfolding binary_number binary_value binary_info
returns-in-Err c =
    let g = c.in-Err.is in
    record { value = rw (← c.read_indexed_binary-read.ensures) (rw g); answer_after = rw (← c.read_indexed_binary-read.ensures) (rw g); info_after = rw (← c.read_indexed_binary-read.ensures) (rw g) }
