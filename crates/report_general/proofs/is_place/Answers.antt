use Rattle.report_general.proofs.Laws.{too_many, too_far, too-bad, past_all, a-place}
use Rattle.report_general.proofs.is_place.Goals as goal

pub returns-then-room-here : goal.returns-then-room-here
returns-then-room-here c = too_many c.if-room-here.true

pub returns-then-here : goal.returns-then-here
returns-then-here c = too_far c.if-here.true

pub returns-then-here-2 : goal.returns-then-here-2
returns-then-here-2 c = too-bad c.if-here-2.true

pub returns-then-units-here : goal.returns-then-units-here
returns-then-units-here c = past_all _ c.units.ensures c.if-units-here.true

pub returns : goal.returns
returns c = a-place _ c.if-room-here.false c.if-here.false c.if-here-2.false c.units.ensures c.if-units-here.false
