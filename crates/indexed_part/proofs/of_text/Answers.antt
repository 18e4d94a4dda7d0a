-- `indexed_part::of_text` meets its contract. Assumes nothing.
use Rattle.indexed_part.proofs.Laws.{text-unframed, text-size-fits, text-long, text-judged}
use Rattle.indexed_part.proofs.of_text.Goals as goal

pub overflow_mul-end : goal.overflow_mul-end
overflow_mul-end c = search text-size-fits

pub slice_bounds-own_text-end : goal.slice_bounds-own_text-end
slice_bounds-own_text-end c = search text-long

pub returns-in-Unframed : goal.returns-in-Unframed
returns-in-Unframed c = search text-unframed

pub returns-in-Item : goal.returns-in-Item
returns-in-Item c = search text-judged
