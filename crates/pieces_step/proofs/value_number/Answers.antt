-- `pieces_step::value_number` meets its contract. Assumes nothing.
use Rattle.pieces_step.proofs.Laws.{value-kept, value-eight, value-plain, value-right, value-wrong}
use borrow.Author.Rules.{rules}
use Rattle.pieces_step.proofs.value_number.Goals as goal

pub returns-then-number-ne0 : goal.returns-then-number-ne0
returns-then-number-ne0 c = search value-kept

pub returns-then-not-zero_bits : goal.returns-then-not-zero_bits
returns-then-not-zero_bits c = search (value-eight, rules)

pub returns-then-not-text : goal.returns-then-not-text
returns-then-not-text c = search (value-plain, rules)

pub returns-then-text_filled : goal.returns-then-text_filled
returns-then-text_filled c = search (value-right, rules)

pub returns-else-text_filled : goal.returns-else-text_filled
returns-else-text_filled c = search (value-wrong, rules)
