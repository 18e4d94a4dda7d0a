-- `second_judging::zero_bits` meets its contract. Assumes nothing.
use Rattle.second_judging.proofs.Judging.{zero_is, zero-past}
use Rattle.second_judging.proofs.zero_bits.Goals as goal

pub returns-then-t-i : goal.returns-then-t-i
returns-then-t-i c = search zero-past

pub returns-else-t-i : goal.returns-else-t-i
returns-else-t-i c = search zero_is
