-- `put_quadlet` meets its contract. Assumes nothing.
use Rattle.base.specs.Stores.{store4}
use borrow.Author.Rules.{rules}
use Rattle.convert_unpack_units.proofs.put_quadlet.Goals as goal

pub returns : goal.returns
returns c = store4 c.args.d.now c.args.q c.args.at (search rules) (search rules)
