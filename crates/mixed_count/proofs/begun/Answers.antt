-- `mixed_count::begun` meets its contract. Assumes nothing.
use Rattle.mixed_count.proofs.Laws.{by-header, by_size}
use Rattle.mixed_count.proofs.begun.Goals as goal

pub returns-then-g-gt0 : goal.returns-then-g-gt0
returns-then-g-gt0 c = search by-header

pub returns : goal.returns
returns c = search by_size
