-- `pieces_taken::take_in` meets its contract. Assumes nothing.
use mathlib.Core.Path.{sym}
use native.Mathlib.Omega.{arith}
use Rattle.pieces_taken.proofs.Laws.{few, took}
use borrow.Author.Rules.{rules}
use Rattle.pieces_taken.proofs.take_in.Goals as goal

pub returns-then-st-gt4 : goal.returns-then-st-gt4
returns-then-st-gt4 c =
    let a = c.args in
    λ fit room. absurd (omega (arith, c.if-st-gt4.true, few a.form a.st a.piece.now (search rules) (search rules) fit room))

pub slice_bounds-run-end : goal.slice_bounds-run-end
slice_bounds-run-end c = sym c.stage_of-g.ensures.1

pub holding-requires : goal.holding-requires
holding-requires c = c.if-st-gt4.false

pub returns : goal.returns
returns c =
    let a = c.args in
    let g = c.stage_of-g.ensures in
    λ fit room.
    took a.form a.st a.piece.now g.1 c.holding.ensures.1 fit room a.st.progress.walk.ends _ g.0 a.items.now a.refusals.now _ _ _ _
    c.run-r.ensures g.1 _ c.progress_with-progress.ensures _ c.holding.ensures.0
