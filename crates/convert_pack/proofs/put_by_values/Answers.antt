-- `put_by_values` meets its contract. Assumes nothing.
use Prim.Native.Nat.{◌*◌}
use borrow.Author.Rules.{rules}
use Rattle.laws.specs.Units.{read-unit}
use Rattle.convert_pack.proofs.put_by_values.Goals as goal

pub returns : goal.returns
returns c =
    let t = read-unit c.args.src.now (4 * c.args.i) c.requires.0 (λ i. search rules) c.quadlet_at.ensures c.triplet-t.ensures in
    rw t at c.put_triplet.ensures
