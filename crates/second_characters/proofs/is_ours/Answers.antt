-- `second_characters::is_ours` meets its contract. Assumes nothing.
use Rattle.second_characters.proofs.Version.{ours}
use Rattle.second_characters.proofs.is_ours.Goals as goal

pub returns : goal.returns
returns c = search ours
