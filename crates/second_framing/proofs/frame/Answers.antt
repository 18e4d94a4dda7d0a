-- `second_framing::frame` meets its contract. Assumes nothing.
use Rattle.second_framing.proofs.Framing.{not_ours, item-ours, item-other}
use Rattle.second_framing.proofs.Framing.{no-unit, bad-first, unknown, no_second, bad-second, past}
use Rattle.second_framing.proofs.frame.Goals as goal

pub returns-then-units-lt1 : goal.returns-then-units-lt1
returns-then-units-lt1 c = search no-unit

pub returns-in-Refused : goal.returns-in-Refused
returns-in-Refused c = search bad-first

pub returns-then-head-eq0 : goal.returns-then-head-eq0
returns-then-head-eq0 c = search unknown

pub returns-then-units-head : goal.returns-then-units-head
returns-then-units-head c = search no_second

pub returns-in-Refused-strangers : goal.returns-in-Refused-strangers
returns-in-Refused-strangers c = search bad-second

pub returns-then-units-size : goal.returns-then-units-size
returns-then-units-size c = search past

pub returns-then-asked-is_ours : goal.returns-then-asked-is_ours
returns-then-asked-is_ours c =
    not_ours _ _ _ c.if-units-lt1.false _ c.strangers.ensures c.in_default.is _ _ _ _
    c.at.ensures c.at-2.ensures c.at-3.ensures c.at-4.ensures
    _ c.opening_by-opening.ensures _ c.header_units-head.ensures c.if-head-eq0.false c.if-units-head.false
    _ c.strangers-2.ensures c.in_default-strangers.is _ _ _ _
    c.at-5.ensures c.at-6.ensures c.at-7.ensures c.at-8.ensures
    _ c.extent-size.ensures c.if-units-size.false _ c.kind-kind.ensures c.in-Genus.is
    _ c.is_ours.ensures c.if-asked-is_ours.true _ c.unframed-then-asked-is_ours.ensures

pub returns-else-asked-is_ours : goal.returns-else-asked-is_ours
returns-else-asked-is_ours c = search item-ours

pub returns-in_default-kind : goal.returns-in_default-kind
returns-in_default-kind c = search (item-other, c.in_default-kind.not-Genus)
