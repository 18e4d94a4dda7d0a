-- `mixed_report::report_by` meets its contract. Assumes nothing.
use Rattle.mixed_report.proofs.Laws.{no_room, with-room, counted}
use Rattle.mixed_report.proofs.report_by.Goals as goal

pub returns-then-out-n : goal.returns-then-out-n
returns-then-out-n c = search no_room

pub fill-length-requires : goal.fill-length-requires
fill-length-requires c = search counted

pub returns : goal.returns
returns c = search with-room
