-- `registry_master::opening` meets its contract. A law for each range of the first sextet. Assumes nothing.
use mathlib.Core.Path.{sym, ◌∙◌}
use Rattle.registry_master.proofs.Laws.{opened-letter, opened-zero, opened_one, opened-two, opened-small, opened-large, opened-group, opened-past}
use borrow.Author.Rules.{rules}
use Rattle.registry_master.proofs.opening.Goals as goal

pub returns-then-a-lt52 : goal.returns-then-a-lt52
returns-then-a-lt52 c = c.fixed.ensures ∙ sym (opened-letter _ _ _ _ (search rules))

pub returns-then-a-eq52 : goal.returns-then-a-eq52
returns-then-a-eq52 c = c.fixed-then-a-eq52.ensures ∙ sym (opened-zero _ _ _ _ (search rules))

pub returns-then-a-eq53 : goal.returns-then-a-eq53
returns-then-a-eq53 c = c.pad0.ensures ∙ sym (opened_one _ _ _ _ (search rules))

pub returns-then-a-lt56 : goal.returns-then-a-lt56
returns-then-a-lt56 c = sym (opened-two _ _ _ _ (search rules) (search rules))

pub returns-then-a-lt59 : goal.returns-then-a-lt59
returns-then-a-lt59 c = c.small_variable.ensures ∙ sym (opened-small _ _ _ _ (search rules) (search rules))

pub returns-then-a-lt62 : goal.returns-then-a-lt62
returns-then-a-lt62 c = c.large_variable.ensures ∙ sym (opened-large _ _ _ _ (search rules) (search rules))

pub returns-then-a-eq62 : goal.returns-then-a-eq62
returns-then-a-eq62 c = c.group.ensures ∙ sym (opened-group _ _ _ _ (search rules))

pub returns : goal.returns
returns c = sym (opened-past _ _ _ _ (search rules))
