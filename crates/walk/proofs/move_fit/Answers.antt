-- `walk::move_fit` meets its contract. Assumes nothing.
use mathlib.Core.Path.{sym, ◌∙◌}
use native.Mathlib.Omega.{arith}
use Rattle.walk.proofs.Fitting.{near-is, is-near}
use Rattle.walk.proofs.Steps.{stepped, both_ways}
use borrow.Author.Rules.{rules}
use Rattle.walk.proofs.move_fit.Goals as goal

pub returns-then-slots-lt-MAX_DEPTH : goal.returns-then-slots-lt-MAX_DEPTH
returns-then-slots-lt-MAX_DEPTH c = λ l f. absurd (omega arith)

pub returns-then-not-is_near : goal.returns-then-not-is_near
returns-then-not-is_near c =
    λ l f. both_ways _ (sym (c.is_near.ensures l) ∙ c.if-not-is_near.true) (is-near _ _ _ _ c.measured-e.ensures f)

pub move_near-requires : goal.move_near-requires
move_near-requires c =
    (search rules, near-is _ _ _ _ c.measured-e.ensures (sym (c.is_near.ensures (search rules)) ∙ c.if-not-is_near.false))

pub returns : goal.returns
returns c =
    λ l f. stepped _ _ _ c.measured-e.ensures _ _ f c.move_near.ensures
