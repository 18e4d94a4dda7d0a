-- `put_four` meets its contract. Assumes nothing.
use Rattle.base.specs.Each.{each-four}
use Rattle.format.specs.Units.{triplet_of}
use Rattle.laws.specs.Units.{triplet-size}
use Rattle.convert_pack.proofs.put_four.Goals as goal

pub returns : goal.returns
returns c =
    let a = c.args in
    λ o. each-four 4 3 triplet_of triplet-size a.src.now o a.i _ _ _ _ _ c.put_by_pairs.ensures c.put_by_pairs-2.ensures c.put_by_pairs-3.ensures c.put_by_pairs-4.ensures
