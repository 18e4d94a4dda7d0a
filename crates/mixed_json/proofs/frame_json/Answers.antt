-- `mixed_json::frame_json` meets its contract. Assumes nothing.
use Rattle.mixed_json.proofs.Laws.{json-short, json-malformed, json-fit}
use Rattle.mixed_json.proofs.frame_json.Goals as goal

pub returns-then-s-lt23 : goal.returns-then-s-lt23
returns-then-s-lt23 c = search json-short

pub returns-then-is_header : goal.returns-then-is_header
returns-then-is_header c = search json-fit

pub returns : goal.returns
returns c = search json-malformed
