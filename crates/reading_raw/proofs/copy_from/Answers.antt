-- `reading_raw::copy_from` meets its contract: whole units, or from within one. Assumes nothing.
use Prim.Native.Nat.{◌/◌}
use native.Mathlib.Omega.{arith}
use Rattle.reading_raw.proofs.Copying.{copied-whole}
use Rattle.reading_raw.proofs.copy_from.Goals as goal

pub returns-then-start-eq0 : goal.returns-then-start-eq0
returns-then-start-eq0 c =
    let a = c.args in
    λ f. copied-whole a.item.now a.out.now a.start (a.start / 3) c.requires.1 c.requires.2 (omega arith) _
    (rw c.requires.0 at (c.copy_units.ensures f (omega arith) (omega (arith, f.whole))))
