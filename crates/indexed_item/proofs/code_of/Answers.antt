-- `indexed_item::code_of` meets its contract: a letter, or a selector and a letter. Assumes nothing.
use borrow.Author.Tests.{ne_eqb}
use Rattle.format.specs.Indexed.{code_of_row}
use Rattle.indexed_item.proofs.code_of.Goals as goal

pub returns-then-c-eq1 : goal.returns-then-c-eq1
unfolding code_of_row
returns-then-c-eq1 c = rw (c.if-c-eq1.true, c.character-letter.ensures)

pub returns : goal.returns
unfolding code_of_row
returns c = rw (ne_eqb _ _ c.if-c-eq1.false, c.character-selector.ensures, c.character-letter.ensures)
