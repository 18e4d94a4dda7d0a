use Rattle.writing_head.proofs.Heads.{packed}
use borrow.Author.Rules.{rules}
use Rattle.writing_head.proofs.pack3.Goals as goal

pub returns : goal.returns
returns c = packed c.args.cs _ _ _ (search rules) c.pack-a.ensures c.pack-b.ensures c.pack-c.ensures
