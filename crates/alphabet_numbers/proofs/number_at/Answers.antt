use lib.ListN.{get_or-eq_default}
use Rattle.format.specs.Alphabet.{sextet_of, stranger_number}
use borrow.Author.Rules.{rules}
use Rattle.alphabet_numbers.proofs.number_at.Goals as goal

pub returns-then-i-s : goal.returns-then-i-s
returns-then-i-s c = rw (c.stranger_number.ensures, c.sextet.ensures)

pub returns : goal.returns
unfolding sextet_of stranger_number
returns c = let a = c.args in rw (get_or-eq_default a.s.now 0 {n = a.i} (search rules))
