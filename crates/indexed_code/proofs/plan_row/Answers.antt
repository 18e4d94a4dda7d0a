-- `indexed_code::plan_row` meets its contract: 12, 15. Assumes nothing.
use mathlib.Core.Path.{sym, ◌∙◌}
use Rattle.indexed_code.proofs.Plans.{unfit, not-current, fine}
use Rattle.indexed_code.proofs.plan_row.Goals as goal

pub returns-then-not-is_fit : goal.returns-then-not-is_fit
returns-then-not-is_fit c = λ few. unfit _ _ _ _ (sym (c.is_fit.ensures few) ∙ c.if-not-is_fit.true)

pub returns-then-not-ondex_right : goal.returns-then-not-ondex_right
returns-then-not-ondex_right c = λ few.
    not-current _ _ _ _ (sym (c.is_fit.ensures few) ∙ c.if-not-is_fit.false) (sym c.ondex_right.ensures ∙ c.if-not-ondex_right.true)

pub returns : goal.returns
returns c = λ few.
    fine _ _ _ _ (sym (c.is_fit.ensures few) ∙ c.if-not-is_fit.false) (sym c.ondex_right.ensures ∙ c.if-not-ondex_right.false)
