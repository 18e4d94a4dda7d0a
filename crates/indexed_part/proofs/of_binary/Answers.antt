-- `indexed_part::of_binary` meets its contract. Assumes nothing.
use Rattle.indexed_part.proofs.Laws.{binary-unframed, binary-judged}
use Rattle.indexed_part.proofs.of_binary.Goals as goal

pub returns-in-Unframed : goal.returns-in-Unframed
returns-in-Unframed c = search binary-unframed

pub returns-in-Item : goal.returns-in-Item
returns-in-Item c = search binary-judged
