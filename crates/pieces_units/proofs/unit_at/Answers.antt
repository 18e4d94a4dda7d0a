-- `pieces_units::unit_at` meets its contract. Assumes nothing.
use native.Mathlib.Omega.{arith}
use Rattle.pieces_units.proofs.Laws.{text-some, binary-some, text-found, binary-found}
use borrow.Author.Rules.{rules}
use Rattle.pieces_units.proofs.unit_at.Goals as goal

pub returns-then-count-gt4 : goal.returns-then-count-gt4
returns-then-count-gt4 c = λ few h. absurd (omega arith)

pub returns-then-count-piece : goal.returns-then-count-piece
returns-then-count-piece c = λ few h. absurd (text-some _ _ _ h c.in-Text.is c.if-count-piece.true)

pub returns-then-count-piece-2 : goal.returns-then-count-piece-2
returns-then-count-piece-2 c = λ few h. absurd (binary-some _ _ _ h c.in-Binary.is c.if-count-piece-2.true)

pub returns-else-count-piece : goal.returns-else-count-piece
returns-else-count-piece c = λ few h. let a = c.args in text-found a.form a.held a.count a.piece.now a.k _ (search rules) few h c.in-Text.is c.text_unit.ensures

pub returns-else-count-piece-2 : goal.returns-else-count-piece-2
returns-else-count-piece-2 c = λ few h. let a = c.args in binary-found a.form a.held a.count a.piece.now a.k _ (search rules) few h c.in-Binary.is c.binary_unit.ensures
