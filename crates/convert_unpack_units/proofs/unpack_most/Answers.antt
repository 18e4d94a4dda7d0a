-- `unpack_most` meets its contract. Assumes nothing.
use mathlib.Core.Path.{refl}
use Rattle.base.specs.Each.{each}
use borrow.Author.Rules.{rules}
use Rattle.convert_unpack_units.proofs.unpack_most.Goals as goal

pub returns-then-n-lt256 : goal.returns-then-n-lt256
unfolding each
returns-then-n-lt256 c = (search rules, refl)
