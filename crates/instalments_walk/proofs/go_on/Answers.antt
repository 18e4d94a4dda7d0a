-- `instalments_walk::go_on` meets its contract. Assumes nothing.
use mathlib.Core.Path.{sym, ◌∙◌}
use native.Mathlib.Omega.{arith}
use Rattle.instalments_walk.proofs.Asked.{too_long, unfit, fits}
use Rattle.instalments_walk.proofs.go_on.Goals as goal

pub returns-then-slots-lt-MAX_DEPTH : goal.returns-then-slots-lt-MAX_DEPTH
returns-then-slots-lt-MAX_DEPTH c = λ l. absurd (omega arith)

pub returns-then-e : goal.returns-then-e
returns-then-e c = λ l. too_long _ _ _ c.measured-e.ensures _ _ _ c.if-e.true c.halted-then-e.ensures

pub returns-then-not-is_fit : goal.returns-then-not-is_fit
returns-then-not-is_fit c =
    λ l. unfit _ _ _ c.measured-e.ensures _ _ _ c.if-e.false (sym (c.is_fit.ensures l) ∙ c.if-not-is_fit.true) c.halted-then-not-is_fit.ensures

pub returns : goal.returns
returns c =
    let a = c.args in
    λ l. c.go.ensures l
    (fits _ _ _ c.measured-e.ensures a.budget a.slots.now a.p c.if-e.false (sym (c.is_fit.ensures l) ∙ c.if-not-is_fit.false))
