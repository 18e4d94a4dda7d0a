-- `four_bytes` meets its contract. Assumes nothing.
use Rattle.convert_unpack_units.specs.Numbers.{four_at}
use borrow.Author.Rules.{rules}
use Rattle.convert_unpack_units.proofs.four_bytes.Goals as goal

pub returns : goal.returns
unfolding four_at
returns c = search rules
