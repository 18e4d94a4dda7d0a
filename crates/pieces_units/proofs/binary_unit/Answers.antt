-- `pieces_units::binary_unit` meets its contract. Assumes nothing.
use native.Mathlib.Omega.{arith}
use mathlib.Core.List.{◌++◌}
use lib.ListN.{take}
use Rattle.pieces_units.proofs.Laws.{binary-three, all-long}
use borrow.Author.Rules.{rules}
use Rattle.pieces_units.proofs.binary_unit.Goals as goal

pub returns : goal.returns
returns c = let a = c.args in
    binary-three (take a.count a.held ++ a.piece.now) a.at (omega (arith, all-long a.held a.count a.piece.now (search rules) c.requires.0, c.requires.1))
    _ _ _ _ c.element-a.ensures c.element-b.ensures c.element-c.ensures c.unpack.ensures
