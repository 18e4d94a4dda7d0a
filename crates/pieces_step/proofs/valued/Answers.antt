-- `pieces_step::valued` meets its contract. Assumes nothing.
use native.Mathlib.Omega.{arith}
use Rattle.pieces_step.proofs.Laws.{scan-place}
use Rattle.pieces_step.proofs.Laws.{value-known, value-strange}
use borrow.Author.Rules.{rules}
use Rattle.pieces_step.proofs.valued.Goals as goal

pub overflow_add-g : goal.overflow_add-g
overflow_add-g c = omega (arith, scan-place _ _ _ _ (search rules) c.scan-v.ensures c.in-Refused.is, c.requires.read)

pub returns-in-Accepted : goal.returns-in-Accepted
returns-in-Accepted c = search (value-known, c.settled.ensures)

pub returns-in-Refused : goal.returns-in-Refused
returns-in-Refused c = search (value-strange, c.refused.ensures)
