-- `reading_part::of_text` meets its contract. Assumes nothing.
use Rattle.reading_part.proofs.Laws.{text-unframed, text-size-fits, text-long, text-other, text-judged}
use Rattle.reading_part.proofs.of_text.Goals as goal

pub returns-then-not-is_primitive : goal.returns-then-not-is_primitive
returns-then-not-is_primitive c = search text-other

pub overflow_mul-end : goal.overflow_mul-end
overflow_mul-end c = search text-size-fits

pub slice_bounds-own_text-end : goal.slice_bounds-own_text-end
slice_bounds-own_text-end c = search text-long

pub returns-in-Unframed : goal.returns-in-Unframed
returns-in-Unframed c = search text-unframed

pub returns-else-not-is_primitive : goal.returns-else-not-is_primitive
returns-else-not-is_primitive c = search text-judged
