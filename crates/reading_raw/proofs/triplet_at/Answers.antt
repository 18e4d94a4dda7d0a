use mathlib.Core.Path.{sym}
use Rattle.base.specs.Each.{take4}
use native.Mathlib.Omega.{arith}
use Rattle.laws.specs.Units.{read-unit}
use Rattle.reading_raw.proofs.triplet_at.Goals as goal

pub returns : goal.returns
returns c =
    read-unit c.args.item.now c.args.at c.sextets-values.ensures (λ i. omega (arith, c.shared_slice_known-5-1.given i))
    (sym (take4 _ _ c.requires)) c.triplet.ensures
