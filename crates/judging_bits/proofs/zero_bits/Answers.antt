use mathlib.Core.Path.{sym}
use Rattle.format.specs.Judging.{zero_bits}
use Rattle.judging_bits.proofs.Laws.{zero-past}
use borrow.Author.Rules.{rules}
use Rattle.judging_bits.proofs.zero_bits.Goals as goal

pub returns-then-i-ge12 : goal.returns-then-i-ge12
returns-then-i-ge12 c = sym (zero-past c.args.cs c.args.i _ (search rules) (search rules))

pub returns : goal.returns
unfolding zero_bits
returns c = cc
