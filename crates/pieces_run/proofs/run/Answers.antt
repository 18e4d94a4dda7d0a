-- `pieces_run::run` meets its contract. The invariant: so many units were taken, and what they gave stands in the buffers. Assumes nothing.
use Rattle.pieces_run.proofs.Laws.{runs-start, runs-more, runs-all}
use Rattle.pieces_run.proofs.run.Goals as goal

pub loop-k-init : goal.loop-k-init
loop-k-init c = let a = c.args in runs-start a.form a.slots.now a.g a.held a.count a.piece.now a.items.now a.refusals.now

pub loop-k-preserved : goal.loop-k-preserved
loop-k-preserved c = let l = c.loop-k in
    let a = c.args in
    runs-more a.form a.slots.now a.g a.held a.count a.piece.now a.items.now a.refusals.now _ _ l.k _ l.slots _ l.stage
    l.items _ l.refusals _ l.i l.j _ c.unit-u.ensures c.units_in-n.ensures c.loop-k-test.true l.auto.slots l.auto.items
    l.auto.refusals c.unit_at-q.ensures c.turn-r.ensures l.invariant

pub returns : goal.returns
returns c = let l = c.loop-k in
    let a = c.args in
    runs-all a.form a.slots.now a.g a.held a.count a.piece.now a.items.now a.refusals.now _ l.k l.slots l.stage l.items
    l.refusals l.i l.j c.units_in-n.ensures l.auto.k-end c.loop-k-test.false l.invariant
