-- `mixed_here::judged` meets its contract. Assumes nothing.
use Rattle.mixed_here.proofs.Laws.{behind, by-fast, by_general}
use Rattle.mixed_here.proofs.judged.Goals as goal

pub returns-then-s-at : goal.returns-then-s-at
returns-then-s-at c = search behind

pub returns-then-size-gt0 : goal.returns-then-size-gt0
returns-then-size-gt0 c = search by-fast

pub returns : goal.returns
returns c = search by_general
