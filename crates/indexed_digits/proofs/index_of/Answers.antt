-- `indexed_digits::index_of` meets its contract. Assumes nothing.
use mathlib.Core.Path.{◌≡◌}
use native.Mathlib.Omega.{arith}
use Rattle.format.specs.Values.{index_of}
use Rattle.indexed_digits.proofs.index_of.Goals as goal

pub returns : goal.returns
unfolding index_of
returns c = λ p.
    let from : c.min-from.result ≡ c.args.c.chars = omega (arith, p.from) in
    rw from at (c.number.ensures p.index)
