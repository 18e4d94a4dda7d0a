-- `indexed_digits::ondex_of` meets its contract. Assumes nothing.
use mathlib.Core.Path.{◌≡◌}
use Prim.Native.Nat.{◌+◌}
use native.Mathlib.Omega.{arith}
use Rattle.format.specs.Values.{ondex_of}
use Rattle.indexed_digits.proofs.ondex_of.Goals as goal

pub returns : goal.returns
unfolding ondex_of
returns c = λ p.
    let from : c.min-from.result ≡ c.args.c.chars + c.args.c.index = omega (arith, p.from) in
    rw from at (c.number.ensures p.ondex)
