-- `mixed_frame::start` meets its contract. Assumes nothing.
use Rattle.mixed_frame.proofs.Laws.{no_byte}
use Rattle.mixed_frame.proofs.start.Goals as goal

pub returns : goal.returns
returns c = search no_byte
