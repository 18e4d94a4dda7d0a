use borrow.Author.Rules.{rules}
use Rattle.base.specs.Lists.{get_or-table}
use Rattle.format.specs.Alphabet.{sextet_of, sextet_table}
use Rattle.alphabet.proofs.value.Goals as goal

pub returns : goal.returns
unfolding sextet_table
returns c = record { value = rw c.from.ensures; value_2 = λ e. rw (c.from.ensures, e) (get_or-table sextet_of 256 c.args.c (search rules)) }
