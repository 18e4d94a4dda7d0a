-- `pieces_units::left_at` meets its contract. Assumes nothing.
use mathlib.Core.Path.{sym, ◌∙◌}
use native.Mathlib.Omega.{arith}
use lib.Seq.{get_or-drop}
use Rattle.pieces_units.proofs.Laws.{all-long, left-none}
use borrow.Author.Rules.{rules}
use Rattle.pieces_units.proofs.left_at.Goals as goal

pub returns-then-count-piece : goal.returns-then-count-piece
returns-then-count-piece c =
    let a = c.args in
    left-none _ a.from a.i
    (omega (arith, c.if-count-piece.true, all-long a.held a.count a.piece.now (search rules) (search rules)))

pub returns : goal.returns
returns c = let a = c.args in c.element.ensures ∙ sym (get_or-drop a.from _ a.i 0)
