use mathlib.Core.Path.{refl}
use Rattle.format.specs.Report.{be4}
use Rattle.report_rows.specs.Stores.{test-put, test-left}
use Rattle.report_rows.proofs.put_told.Goals as goal

pub returns-then-has_room : goal.returns-then-has_room
unfolding be4
returns-then-has_room c = test-put c.args.out.now c.args.at 5 _ c.has_room.ensures _ refl c.if-has_room.true c.store_told.ensures

pub returns-else-has_room : goal.returns-else-has_room
unfolding be4
returns-else-has_room c = test-left c.args.out.now c.args.at 5 _ c.has_room.ensures _ refl c.if-has_room.false
