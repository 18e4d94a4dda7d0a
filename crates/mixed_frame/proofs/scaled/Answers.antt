-- `mixed_frame::scaled` meets its contract. Assumes nothing.
use Rattle.mixed_frame.proofs.Laws.{head-fits, size_fits, scaled-item, scaled-not}
use Rattle.mixed_frame.proofs.scaled.Goals as goal

pub overflow_mul-result : goal.overflow_mul-result
overflow_mul-result c = search head-fits

pub overflow_mul-result-in-Item : goal.overflow_mul-result-in-Item
overflow_mul-result-in-Item c = search size_fits

pub returns-in-Item : goal.returns-in-Item
returns-in-Item c = search scaled-item

pub returns-in-Unframed : goal.returns-in-Unframed
returns-in-Unframed c = search scaled-not
