use Rattle.framing_head.proofs.Laws.{joined}
use borrow.Author.Rules.{rules}
use Rattle.framing_head.proofs.join.Goals as goal

pub returns : goal.returns
returns c = joined c.args.a c.args.b c.args.c (search rules) (search rules) (search rules)
