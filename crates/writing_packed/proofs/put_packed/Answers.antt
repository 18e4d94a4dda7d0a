-- `writing_packed::put_packed` meets its contract: the unit in which the fill ends, and then the others. Assumes nothing.
use Rattle.writing_packed.proofs.Parts.{packed-put}
use borrow.Author.Rules.{rules}
use Rattle.writing_packed.proofs.put_packed.Goals as goal

pub returns : goal.returns
returns c = search (packed-put, rules)
