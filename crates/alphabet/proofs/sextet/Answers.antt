use borrow.Author.Rules.{rules}
use Rattle.alphabet.proofs.sextet.Goals as goal

pub returns : goal.returns
returns c = c.value.ensures.value_2 (search rules)
