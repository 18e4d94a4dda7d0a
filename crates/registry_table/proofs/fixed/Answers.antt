-- `registry_table::fixed` meets its contract. By place is by letter, which a computed test says for each number of characters, and no code
-- has another. Assumes nothing.
use mathlib.Core.Path.{◌∙◌}
use Rattle.registry_table.proofs.Laws.{one-letter, zero-letter, one-aa, no_code}
use borrow.Author.Rules.{rules}
use Rattle.registry_table.proofs.fixed.Goals as goal

pub returns-then-chars-eq1 : goal.returns-then-chars-eq1
returns-then-chars-eq1 c = rw c.if-chars-eq1.true (c.fixed_from.ensures ∙ one-letter _ (search rules))

pub returns-then-chars-eq2 : goal.returns-then-chars-eq2
returns-then-chars-eq2 c = rw c.if-chars-eq2.true (c.fixed_from-then-chars-eq2.ensures ∙ zero-letter _ (search rules))

pub returns-then-chars-eq4 : goal.returns-then-chars-eq4
returns-then-chars-eq4 c = rw c.if-chars-eq4.true (c.fixed_from-then-chars-eq4.ensures ∙ one-aa _ (search rules))

pub returns : goal.returns
returns c = no_code _ _ c.if-chars-eq1.false c.if-chars-eq2.false c.if-chars-eq4.false
