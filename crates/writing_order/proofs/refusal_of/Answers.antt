-- `writing_order::refusal_of` meets its contract: the first test that fails. Assumes nothing.
use Rattle.writing_order.proofs.Cases.{is-unknown, is-unfit, is-long, is-short}
use mathlib.Core.Path.{sym, ◌∙◌}
use Rattle.writing_order.proofs.refusal_of.Goals as goal

pub returns-then-not-is_named : goal.returns-then-not-is_named
returns-then-not-is_named c = is-unknown _ _ _ _ (sym c.is_named.ensures ∙ c.if-not-is_named.true)

pub returns-then-not-is_fit : goal.returns-then-not-is_fit
returns-then-not-is_fit c =
    is-unfit _ _ _ _ (sym c.is_named.ensures ∙ c.if-not-is_named.false) (sym c.is_fit.ensures ∙ c.if-not-is_fit.true)

pub returns-then-not-is_short : goal.returns-then-not-is_short
returns-then-not-is_short c =
    is-long _ _ _ _ (sym c.is_named.ensures ∙ c.if-not-is_named.false)
    (sym c.is_fit.ensures ∙ c.if-not-is_fit.false) (sym c.is_short.ensures ∙ c.if-not-is_short.true)

pub returns : goal.returns
returns c =
    c.chars_refusal.ensures
    ∙ is-short _ _ _ _ (sym c.is_named.ensures ∙ c.if-not-is_named.false)
    (sym c.is_fit.ensures ∙ c.if-not-is_fit.false) (sym c.is_short.ensures ∙ c.if-not-is_short.false)
