-- `report_fast_told::signatures` meets its contract. Assumes nothing.
use native.Mathlib.Omega.{arith}
use Rattle.report_fast_laws.specs.Laws.{nothing, by-told}
use Rattle.report_fast_told.proofs.signatures.Goals as goal

pub returns-then-stop-at : goal.returns-then-stop-at
returns-then-stop-at c = (omega arith, λ W l first q. search nothing)

pub returns-then-stop-at-2 : goal.returns-then-stop-at-2
returns-then-stop-at-2 c = (omega arith, λ W l first q. search nothing)

pub returns-then-not-signed : goal.returns-then-not-signed
returns-then-not-signed c = (omega arith, λ W l first q. search nothing)

pub returns-then-told_indexed : goal.returns-then-told_indexed
returns-then-told_indexed c = (
  c.if-stop-at-2.false,
  λ W l first q.
      by-told _ _ _ l first _ _ W c.if-stop-at.false _ _ _ c.told_indexed.ensures c.if-told_indexed.true c.if-stop-at-2.false q
      c.small-size.ensures c.signed.ensures c.if-not-signed.false,
)

pub returns : goal.returns
returns c = (omega arith, λ W l first q. search nothing)
