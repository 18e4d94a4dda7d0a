-- `mixed_item::own` meets its contract. Assumes nothing.
use Rattle.mixed_item.proofs.Laws.{own-cesr, own-json, own-other}
use Rattle.mixed_item.proofs.own.Goals as goal

pub returns-in-Cesr : goal.returns-in-Cesr
returns-in-Cesr c = search own-cesr

pub returns-in-Json : goal.returns-in-Json
returns-in-Json c = search own-json

pub returns-in-Other : goal.returns-in-Other
returns-in-Other c = search own-other
