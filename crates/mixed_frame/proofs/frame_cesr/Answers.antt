-- `mixed_frame::frame_cesr` meets its contract. Assumes nothing.
use Rattle.mixed_frame.proofs.Laws.{scales, framed-cesr}
use Rattle.mixed_frame.proofs.frame_cesr.Goals as goal

pub scaled-requires : goal.scaled-requires
scaled-requires c = search scales

pub returns : goal.returns
returns c = search framed-cesr
