-- `registry_indexed_table::indexed` meets its contract. By place is by letter, which a computed test says for each selector, and no code has
-- another selector. Assumes nothing.
use mathlib.Core.Path.{◌∙◌}
use Rattle.registry_indexed_table.proofs.Laws.{one-letter, zero-letter, two-letter, three-letter, no_code}
use borrow.Author.Rules.{rules}
use Rattle.registry_indexed_table.proofs.indexed.Goals as goal

pub returns-then-selector-eq0 : goal.returns-then-selector-eq0
returns-then-selector-eq0 c = rw c.if-selector-eq0.true (c.indexed_from.ensures ∙ one-letter _ (search rules))

pub returns-then-selector-eq52 : goal.returns-then-selector-eq52
returns-then-selector-eq52 c = rw c.if-selector-eq52.true (c.indexed_from-then-selector-eq52.ensures ∙ zero-letter _ (search rules))

pub returns-then-selector-eq54 : goal.returns-then-selector-eq54
returns-then-selector-eq54 c = rw c.if-selector-eq54.true (c.indexed_from-then-selector-eq54.ensures ∙ two-letter _ (search rules))

pub returns-then-selector-eq55 : goal.returns-then-selector-eq55
returns-then-selector-eq55 c = rw c.if-selector-eq55.true (c.indexed_from-then-selector-eq55.ensures ∙ three-letter _ (search rules))

pub returns : goal.returns
returns c = no_code _ _ c.if-selector-eq0.false c.if-selector-eq52.false c.if-selector-eq54.false c.if-selector-eq55.false
