-- `reading_raw::copy_within` meets its contract: the last two bytes of a unit, or the last one, and the units behind it. Assumes nothing.
use Prim.Native.Nat.{◌/◌}
use native.Mathlib.Omega.{arith}
use lib.ListN.{length-set}
use Rattle.reading_raw.proofs.Copying.{copied-two, copied-one}
use Rattle.reading_raw.proofs.copy_within.Goals as goal

pub bounds-out-1 : goal.bounds-out-1
bounds-out-1 c = simp length-set (omega arith)

pub copy_units-requires : goal.copy_units-requires
copy_units-requires c = simp length-set (omega arith, omega arith)

pub shape_of-out-then-start-eq1 : goal.shape_of-out-then-start-eq1
shape_of-out-then-start-eq1 c = omega (arith, simp length-set at c.copy_units.auto.out)

pub returns-then-start-eq1 : goal.returns-then-start-eq1
returns-then-start-eq1 c =
    let a = c.args in
    let unit = c.requires.0 in
    λ f. copied-two a.item.now a.out.now a.start (a.start / 3) c.requires.2 c.requires.3 c.triplet_at-t.result (rw unit at c.triplet_at-t.ensures) (omega arith) (omega arith) _
    (rw unit at (c.copy_units.ensures f (omega arith) (simp length-set (omega (arith, f.whole)))))

pub copy_units-requires-2 : goal.copy_units-requires-2
copy_units-requires-2 c = simp length-set (omega arith, omega arith)

pub shape_of-out : goal.shape_of-out
shape_of-out c = omega (arith, simp length-set at c.copy_units-2.auto.out)

pub returns : goal.returns
returns c =
    let a = c.args in
    let unit = c.requires.0 in
    λ f. copied-one a.item.now a.out.now a.start (a.start / 3) c.requires.2 c.requires.3 c.triplet_at-t.result (rw unit at c.triplet_at-t.ensures) (omega arith) (omega arith) _
    (rw unit at (c.copy_units-2.ensures f (omega arith) (simp length-set (omega (arith, f.whole)))))
