use mathlib.Core.Path.{sym, ◌∙◌}
use Rattle.format.specs.Judging.{unless}
use Rattle.judging_header.proofs.Laws.{no-levels, some-levels}
use Rattle.judging_header.proofs.group_checks.Goals as goal

pub returns-then-levels-eq0 : goal.returns-then-levels-eq0
returns-then-levels-eq0 c = no-levels _ _ _ c.if-levels-eq0.true

pub returns-then-not-is_shortest : goal.returns-then-not-is_shortest
unfolding unless
returns-then-not-is_shortest c =
    some-levels _ _ _ c.if-levels-eq0.false _ (sym c.is_shortest.ensures ∙ c.if-not-is_shortest.true)

pub returns : goal.returns
unfolding unless
returns c =
    some-levels _ _ _ c.if-levels-eq0.false _ (sym c.is_shortest.ensures ∙ c.if-not-is_shortest.false)
