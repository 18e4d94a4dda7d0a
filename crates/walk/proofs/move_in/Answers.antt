-- `walk::move_in` meets its contract. Assumes nothing.
use mathlib.Core.Path.{sym, ◌∙◌}
use native.Mathlib.Omega.{arith}
use Rattle.walk.proofs.Fitting.{fit-near}
use Rattle.walk.proofs.Steps.{too_long, unfit, fits, stepped}
use borrow.Author.Rules.{rules}
use Rattle.walk.proofs.move_in.Goals as goal

pub returns-then-slots-lt-MAX_DEPTH : goal.returns-then-slots-lt-MAX_DEPTH
returns-then-slots-lt-MAX_DEPTH c = λ l. absurd (omega arith)

pub returns-then-e : goal.returns-then-e
returns-then-e c = λ l. too_long _ _ _ c.measured-e.ensures _ _ c.if-e.true c.refused-then-e.ensures

pub returns-then-not-is_fit : goal.returns-then-not-is_fit
returns-then-not-is_fit c =
    λ l. unfit _ _ _ c.measured-e.ensures _ _ c.if-e.false (sym (c.is_fit.ensures l) ∙ c.if-not-is_fit.true) c.refused-then-not-is_fit.ensures

pub move_near-requires : goal.move_near-requires
move_near-requires c =
    let a = c.args in
    let f = sym (c.is_fit.ensures (search rules)) ∙ c.if-not-is_fit.false in
    (search rules, fit-near _ _ _ (fits _ _ _ c.measured-e.ensures a.slots.now a.p c.if-e.false f) c.measured-e.ensures.units)

pub returns : goal.returns
returns c =
    let a = c.args in
    λ l.
    let f = sym (c.is_fit.ensures l) ∙ c.if-not-is_fit.false in
    stepped _ _ _ c.measured-e.ensures _ _ (fits _ _ _ c.measured-e.ensures a.slots.now a.p c.if-e.false f) c.move_near.ensures
