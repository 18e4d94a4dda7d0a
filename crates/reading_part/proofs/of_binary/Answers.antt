-- `reading_part::of_binary` meets its contract. Assumes nothing.
use Rattle.reading_part.proofs.Laws.{binary-unframed, binary-other, binary-judged}
use Rattle.reading_part.proofs.of_binary.Goals as goal

pub returns-then-not-is_primitive : goal.returns-then-not-is_primitive
returns-then-not-is_primitive c = search binary-other

pub returns-in-Unframed : goal.returns-in-Unframed
returns-in-Unframed c = search binary-unframed

pub returns-else-not-is_primitive : goal.returns-else-not-is_primitive
returns-else-not-is_primitive c = search binary-judged
