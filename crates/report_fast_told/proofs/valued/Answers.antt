-- `report_fast_told::valued` meets its contract. Assumes nothing.
use native.Mathlib.Omega.{arith}
use Rattle.report_fast_laws.specs.Laws.{by_value, nothing}
use borrow.Author.Rules.{rules}
use Rattle.report_fast_told.proofs.valued.Goals as goal

pub returns-then-stop-at : goal.returns-then-stop-at
returns-then-stop-at c = (omega arith, λ W l first. search nothing)

pub returns-then-stop-at-2 : goal.returns-then-stop-at-2
returns-then-stop-at-2 c = (omega arith, λ W l first. search nothing)

pub returns : goal.returns
returns c = (search rules, λ W l first. let h = c.if-stop-at.false in search by_value)
