-- `mixed_json::fit_json` meets its contract. Assumes nothing.
use Rattle.mixed_json.proofs.Laws.{fit_small, fit-past, fit-item}
use Rattle.mixed_json.proofs.fit_json.Goals as goal

pub returns-then-size-lt23 : goal.returns-then-size-lt23
returns-then-size-lt23 c = search fit_small

pub returns-then-len-size : goal.returns-then-len-size
returns-then-len-size c = search fit-past

pub returns : goal.returns
returns c = search fit-item
