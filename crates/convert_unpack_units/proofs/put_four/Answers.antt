-- `put_four` meets its contract. Assumes nothing.
use Rattle.base.specs.Each.{each-four}
use Rattle.format.specs.Units.{quadlet_of}
use Rattle.laws.specs.Units.{quadlet-size}
use Rattle.convert_unpack_units.proofs.Pairs.{units-bytes}
use Rattle.convert_unpack_units.proofs.put_four.Goals as goal

pub returns : goal.returns
returns c =
    let a = c.args in
    λ s o h.
    let t = units-bytes s a.i a.w a.v h in
    each-four 3 4 quadlet_of quadlet-size s o a.i _ _ _ _ _ (rw t.0 at c.put_number.ensures) (rw t.1 at c.put_number-2.ensures)
    (rw t.2 at c.put_number-3.ensures) (rw t.3 at c.put_number-4.ensures)
