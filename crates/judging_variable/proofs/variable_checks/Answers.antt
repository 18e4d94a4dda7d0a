use mathlib.Core.Path.{sym, ◌∙◌}
use Rattle.format.specs.Judging.{and_then, unless}
use Rattle.judging_variable.specs.Checks.{variable_checks}
use Rattle.judging_variable.proofs.variable_checks.Goals as goal

pub returns-then-not-is_shortest : goal.returns-then-not-is_shortest
unfolding variable_checks and_then unless
returns-then-not-is_shortest c = rw (sym c.is_shortest.ensures ∙ c.if-not-is_shortest.true)

pub returns-then-not-has_lead : goal.returns-then-not-has_lead
unfolding variable_checks and_then unless
returns-then-not-has_lead c =
    rw (
      sym c.is_shortest.ensures ∙ c.if-not-is_shortest.false,
      sym c.has_lead.ensures ∙ c.if-not-has_lead.true,
    )

pub returns-then-not-lead_zero : goal.returns-then-not-lead_zero
unfolding variable_checks and_then unless
returns-then-not-lead_zero c =
    rw (
      sym c.is_shortest.ensures ∙ c.if-not-is_shortest.false,
      sym c.has_lead.ensures ∙ c.if-not-has_lead.false,
      sym c.lead_zero.ensures ∙ c.if-not-lead_zero.true,
    )

pub returns-then-not-text_filled : goal.returns-then-not-text_filled
unfolding variable_checks and_then unless
returns-then-not-text_filled c =
    rw (
      sym c.is_shortest.ensures ∙ c.if-not-is_shortest.false,
      sym c.has_lead.ensures ∙ c.if-not-has_lead.false,
      sym c.lead_zero.ensures ∙ c.if-not-lead_zero.false,
      sym c.text_filled.ensures ∙ c.if-not-text_filled.true,
    )

pub returns : goal.returns
unfolding variable_checks and_then unless
returns c =
    rw (
      sym c.is_shortest.ensures ∙ c.if-not-is_shortest.false,
      sym c.has_lead.ensures ∙ c.if-not-has_lead.false,
      sym c.lead_zero.ensures ∙ c.if-not-lead_zero.false,
      sym c.text_filled.ensures ∙ c.if-not-text_filled.false,
    )
