use borrow.Author.Tests.{eq-eqb, ne_eqb}
use Rattle.format.specs.Alphabet.{stranger_number}
use Rattle.alphabet_numbers.proofs.stranger_number.Goals as goal

pub returns-then-v-eq65 : goal.returns-then-v-eq65
unfolding stranger_number
returns-then-v-eq65 c = simp (eq-eqb _ _ c.if-v-eq65.true)

pub returns-else-v-eq65 : goal.returns-else-v-eq65
unfolding stranger_number
returns-else-v-eq65 c = simp (ne_eqb _ _ c.if-v-eq65.false)
