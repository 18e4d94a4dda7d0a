-- `mixed_item::verdict` meets its contract. Assumes nothing.
use Rattle.mixed_item.proofs.Laws.{judged, too_long, behind-end, past_end}
use Rattle.mixed_item.proofs.verdict.Goals as goal

pub returns-then-s-gt-LONGEST : goal.returns-then-s-gt-LONGEST
returns-then-s-gt-LONGEST c = search too_long

pub returns-then-s-at : goal.returns-then-s-at
returns-then-s-at c = search behind-end

pub returns-then-s-at-2 : goal.returns-then-s-at-2
returns-then-s-at-2 c = search past_end

pub returns : goal.returns
returns c = search judged
