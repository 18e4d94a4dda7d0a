-- `put_triplet` meets its contract. Assumes nothing.
use Rattle.base.specs.Stores.{store3}
use borrow.Author.Rules.{rules}
use Rattle.convert_pack.proofs.put_triplet.Goals as goal

pub returns : goal.returns
returns c = store3 c.args.d.now c.args.t c.args.at (search rules) (search rules)
