-- `pack_most` meets its contract. Assumes nothing.
use mathlib.Core.Path.{refl}
use Rattle.base.specs.Each.{each}
use borrow.Author.Rules.{rules}
use Rattle.convert_pack.proofs.pack_most.Goals as goal

pub returns-then-n-lt2048 : goal.returns-then-n-lt2048
unfolding each
returns-then-n-lt2048 c = (search rules, refl)
