-- `mixed_frame::framed` meets its contract. Assumes nothing.
use Rattle.mixed_frame.proofs.Laws.{as-cesr, as-json, as-other}
use Rattle.mixed_frame.proofs.framed.Goals as goal

pub returns-in-Cesr : goal.returns-in-Cesr
returns-in-Cesr c = search as-cesr

pub returns-in-Json : goal.returns-in-Json
returns-in-Json c = search as-json

pub returns-in-Other : goal.returns-in-Other
returns-in-Other c = search as-other
