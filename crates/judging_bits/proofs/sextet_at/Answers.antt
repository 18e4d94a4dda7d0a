use mathlib.Core.Path.{sym}
use lib.ListN.{get_or-eq_default}
use borrow.Author.Rules.{rules}
use Rattle.judging_bits.proofs.sextet_at.Goals as goal

pub returns-else-i-lt12 : goal.returns-else-i-lt12
returns-else-i-lt12 c = sym (get_or-eq_default c.args.cs 0 {n = c.args.i} (search rules))
