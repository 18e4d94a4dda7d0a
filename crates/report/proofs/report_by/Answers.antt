use Rattle.report.proofs.Laws.{read-few, read_count, no_room, with-room}
use borrow.Author.Rules.{rules}
use Rattle.report.proofs.report_by.Goals as goal

pub overflow_mul-n : goal.overflow_mul-n
overflow_mul-n c = let h = read-few c.requires c.count-n.ensures in search rules

pub overflow_add-n : goal.overflow_add-n
overflow_add-n c = let h = read-few c.requires c.count-n.ensures in search rules

pub returns-then-out-n : goal.returns-then-out-n
returns-then-out-n c = search no_room

pub fill-length-requires : goal.fill-length-requires
fill-length-requires c = search read_count

pub returns : goal.returns
returns c = search with-room
