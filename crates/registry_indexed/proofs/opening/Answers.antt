-- `registry_indexed::opening` meets its contract. Assumes nothing.
use mathlib.Core.Path.{sym, ◌∙◌}
use Rattle.registry_indexed.proofs.Laws.{opened-letter, opened-selector}
use borrow.Author.Rules.{rules}
use Rattle.registry_indexed.proofs.opening.Goals as goal

pub returns-then-a-lt52 : goal.returns-then-a-lt52
returns-then-a-lt52 c = c.indexed.ensures ∙ sym (opened-letter _ _ _ _ (search rules))

pub returns : goal.returns
returns c = c.indexed-2.ensures ∙ sym (opened-selector _ _ _ _ (search rules))
