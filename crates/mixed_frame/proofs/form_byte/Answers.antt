-- `mixed_frame::form_byte` meets its contract. Assumes nothing.
use Rattle.mixed_frame.proofs.Laws.{text-form, binary-form, json-form, other-form}
use Rattle.mixed_frame.proofs.form_byte.Goals as goal

pub returns-in-Text : goal.returns-in-Text
returns-in-Text c = search text-form

pub returns-in-Binary : goal.returns-in-Binary
returns-in-Binary c = search binary-form

pub returns-in-Json : goal.returns-in-Json
returns-in-Json c = search json-form

pub returns-in-Other : goal.returns-in-Other
returns-in-Other c = search other-form
