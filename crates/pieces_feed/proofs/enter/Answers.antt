-- `pieces_feed::enter` meets its contract. Assumes nothing.
use native.Mathlib.Omega.{arith}
use Rattle.pieces_feed.proofs.Laws.{gives-taken}
use Rattle.pieces_feed.proofs.enter.Goals as goal

pub overflow_mul-result : goal.overflow_mul-result
overflow_mul-result c =
    let p = c.requires in
    omega (arith, (c.take_in-a.ensures p.0.fit p.0.within).many, p.1.rows)

pub overflow_mul-result-2 : goal.overflow_mul-result-2
overflow_mul-result-2 c =
    let p = c.requires in
    omega (arith, (c.take_in-a.ensures p.0.fit p.0.within).bad, p.1.refused)

pub returns : goal.returns
returns c =
    let a = c.args in
    let p = c.requires in
    gives-taken a.form a.st a.piece.now a.items.now _ a.refusals.now _ _ p.0 p.1 (c.take_in-a.ensures p.0.fit p.0.within)
