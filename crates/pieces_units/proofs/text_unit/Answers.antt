-- `pieces_units::text_unit` meets its contract. Assumes nothing.
use Rattle.pieces_units.proofs.Laws.{text-four, all-long}
use native.Mathlib.Omega.{arith}
use mathlib.Core.List.{◌++◌}
use lib.ListN.{take}
use borrow.Author.Rules.{rules}
use Rattle.pieces_units.proofs.text_unit.Goals as goal

pub returns : goal.returns
returns c = let a = c.args in
    text-four (take a.count a.held ++ a.piece.now) a.at (omega (arith, all-long a.held a.count a.piece.now (search rules) c.requires.0, c.requires.1))
    _ _ _ _ _ _ _ _ c.element-a.ensures c.element-b.ensures c.element-c.ensures c.element-d.ensures
    c.sextet.ensures c.sextet-2.ensures c.sextet-3.ensures c.sextet-4.ensures
