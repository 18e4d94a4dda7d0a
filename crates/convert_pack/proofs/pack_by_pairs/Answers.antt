-- `pack_by_pairs` meets its contract: the first i units are written. Assumes nothing.
use mathlib.Core.Path.{refl}
use Rattle.base.specs.Each.{each}
use borrow.Author.Rules.{rules}
use Rattle.convert_pack.proofs.pack_by_pairs.Goals as goal

pub loop-i-init : goal.loop-i-init
unfolding each
loop-i-init c = (search rules, refl)
