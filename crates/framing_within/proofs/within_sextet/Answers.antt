-- `framing_within::within_sextet` meets its contract. Assumes nothing.
use Rattle.framing_within.proofs.Laws.{part_in, part_out, part-past}
use borrow.Author.Rules.{rules}
use Rattle.framing_within.proofs.within_sextet.Goals as goal

pub returns-then-i-n : goal.returns-then-i-n
returns-then-i-n c = part_in _ _ _ c.if-i-n.true

pub returns-else-i-n : goal.returns-else-i-n
returns-else-i-n c = part_out _ _ _ c.if-i-n.false

pub returns-else-i-lt12 : goal.returns-else-i-lt12
returns-else-i-lt12 c = part-past c.args.cs c.args.n c.args.i (search rules)
