-- `mixed_fast::accepted` meets its contract. Assumes nothing.
use Rattle.mixed_fast.proofs.Laws.{behind, in_bytes, bytes_fit}
use Rattle.mixed_fast.proofs.accepted.Goals as goal

pub returns-then-s-at : goal.returns-then-s-at
returns-then-s-at c = search behind

pub overflow_mul-result : goal.overflow_mul-result
overflow_mul-result c = search bytes_fit

pub returns : goal.returns
returns c = search in_bytes
