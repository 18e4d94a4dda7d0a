-- `mixed_count::next` meets its contract. Assumes nothing.
use Rattle.mixed_count.proofs.Laws.{by_form, by_general}
use Rattle.mixed_count.proofs.next.Goals as goal

pub returns-in-Cesr : goal.returns-in-Cesr
returns-in-Cesr c = search by_form

pub returns : goal.returns
returns c = search by_general
