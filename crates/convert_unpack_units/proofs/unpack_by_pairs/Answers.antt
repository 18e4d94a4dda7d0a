-- `unpack_by_pairs` meets its contract: the first i units are written, and the next four are known as numbers. Assumes nothing.
use mathlib.Core.Path.{refl}
use native.Mathlib.Omega.{arith}
use Rattle.base.specs.Each.{each}
use borrow.Author.Rules.{rules}
use Rattle.convert_unpack_units.proofs.unpack_by_pairs.Goals as goal

pub loop-i-init : goal.loop-i-init
unfolding each
loop-i-init c = (
  search rules,
  refl,
  record {
    bytes = λ k. search rules;
    within = omega arith;
    eight = c.eight_bytes-w.ensures;
    four = c.four_bytes-v.ensures.0;
  },
  c.four_bytes-v.ensures.1,
)
