use native.Mathlib.Omega.{arith}
use Rattle.report_general.proofs.Laws.{placed-here, turned-from}
use borrow.Author.Rules.{rules}
use Rattle.report_general.proofs.put_general.Goals as goal

pub put_judged-requires : goal.put_judged-requires
put_judged-requires c = placed-here c.is_place.ensures c.if-is_place.true (omega arith) c.unit.ensures

pub returns-then-is_place : goal.returns-then-is_place
returns-then-is_place c = search turned-from

pub returns : goal.returns
returns c = λ Φ. absurd (c.is_place.ensures.not-placed c.if-is_place.false _ (search rules) Φ)
