use native.Mathlib.Omega.{arith}
use Rattle.report_general.proofs.Laws.{placed-here}
use Rattle.report_turn.proofs.Laws.{by-unit}
use borrow.Author.Rules.{rules}
use Rattle.report_turn.proofs.put_turn.Goals as goal

pub put_here-requires : goal.put_here-requires
put_here-requires c = placed-here c.is_place.ensures c.if-is_place.true (omega arith) c.unit-u.ensures

pub returns-then-is_place : goal.returns-then-is_place
returns-then-is_place c = search by-unit

pub returns : goal.returns
returns c = record { right = λ L K Φ. absurd (c.is_place.ensures.not-placed c.if-is_place.false _ (search rules) Φ) }
