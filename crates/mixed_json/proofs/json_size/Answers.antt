-- `mixed_json::json_size` meets its contract. Assumes nothing.
use Rattle.mixed_json.proofs.Laws.{size_is}
use Rattle.mixed_json.proofs.json_size.Goals as goal

pub returns : goal.returns
returns c = size_is _ _ _ _ c.pair-high.ensures c.pair-middle.ensures c.pair-low.ensures
