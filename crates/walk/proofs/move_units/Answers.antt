-- `walk::move_units` meets its contract. Assumes nothing.
use Rattle.walk.proofs.Steps.{at-near, ends, spans, goes-ready, goes_on}
use Rattle.walk.proofs.move_units.Goals as goal

pub ended-requires : goal.ended-requires
ended-requires c = at-near _ _ _ _ c.requires.1

pub returns-then-p-n : goal.returns-then-p-n
returns-then-p-n c = ends _ _ _ _ _ c.requires.1 _ c.if-p-n.true c.ended.ensures

pub next_item-item-requires : goal.next_item-item-requires
next_item-item-requires c = let p = c.requires in spans _ _ _ _ p.1 c.if-p-n.false _ (c.stop-stop.ensures p.0)

pub yielded-requires : goal.yielded-requires
yielded-requires c =
    let p = c.requires in
    let ne = c.if-p-n.false in
    let s = c.stop-stop.ensures p.0 in
    (p.0, (spans _ _ _ _ p.1 ne _ s).slots, at-near _ _ _ _ p.1, goes-ready _ _ _ _ p.1 ne _ s _ c.next_item-item.ensures)

pub returns : goal.returns
returns c =
    let p = c.requires in
    goes_on _ _ _ _ p.1 c.if-p-n.false _ (c.stop-stop.ensures p.0) _ c.next_item-item.ensures _ c.yielded.ensures
