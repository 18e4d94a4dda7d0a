-- `places` meets its contract. Assumes nothing.
use Rattle.convert_pack.proofs.Pairs.{known, places-least, places-found}
use borrow.Author.Rules.{rules}
use Rattle.convert_pack.proofs.places.Goals as goal

pub overflow_sub-result : goal.overflow_sub-result
overflow_sub-result c = places-least (known c.args.q (search rules) c.requires) c.from.ensures c.from-2.ensures c.from-3.ensures c.from-4.ensures

pub returns : goal.returns
returns c = places-found (known c.args.q (search rules) c.requires) c.from.ensures c.from-2.ensures c.from-3.ensures c.from-4.ensures
