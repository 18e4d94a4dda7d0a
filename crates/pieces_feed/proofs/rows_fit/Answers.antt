-- `pieces_feed::rows_fit` meets its contract. Assumes nothing.
use mathlib.Core.Path.{sym, ◌∙◌}
use native.Mathlib.Omega.{arith}
use Rattle.pieces_feed.proofs.Laws.{enough, counted}
use Rattle.pieces_feed.proofs.rows_fit.Goals as goal

pub overflow_add-st : goal.overflow_add-st
overflow_add-st c = omega (arith, c.requires.few, c.struct_known-1.given)

pub returns-then-many_fit : goal.returns-then-many_fit
returns-then-many_fit c =
    let a = c.args in
    enough a.form a.st a.piece.now c.requires.held c.requires.few a.room a.more _ c.units-n.ensures (sym c.many_fit.ensures ∙ c.if-many_fit.true)

pub returns : goal.returns
returns c =
    let a = c.args in
    let p = c.requires in
    counted a.room a.more (c.take_in-a.ensures p.fit p.within) c.many_fit-2.ensures
