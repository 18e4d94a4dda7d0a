-- `pieces_units::element` meets its contract. Assumes nothing.
use Rattle.pieces_units.proofs.Laws.{held_at, piece-at}
use borrow.Author.Rules.{rules}
use Rattle.pieces_units.proofs.element.Goals as goal

pub returns-then-i-count : goal.returns-then-i-count
returns-then-i-count c = search (held_at, rules)

pub returns : goal.returns
returns c = search (piece-at, rules)
