-- `mixed_rows::put_form` meets its contract. Assumes nothing.
use Rattle.mixed_rows.proofs.Laws.{form-short, form-put, form-past}
use Rattle.mixed_rows.proofs.put_form.Goals as goal

pub returns-then-out-lt10 : goal.returns-then-out-lt10
returns-then-out-lt10 c = search form-short

pub returns-then-at-out : goal.returns-then-at-out
returns-then-at-out c = search form-put

pub returns-else-at-out : goal.returns-else-at-out
returns-else-at-out c = search form-past
