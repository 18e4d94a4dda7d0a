-- `walk_state::slot_fits` meets its contract. One slot, by the three tests that 13 makes of it. Assumes nothing.
use Prim.Native.Nat.{◌-◌}
use native.Mathlib.Omega.{arith}
use borrow.Author.Tests.{lt-ltb, le-ltb, eq-eqb, ne_eqb}
use Rattle.walk_state.specs.Walking.{slot_fits}
use Rattle.walk_state.proofs.Lent.{slot_at}
use Rattle.walk_fit.proofs.slot_fits.Goals as goal

pub returns-then-depth-k : goal.returns-then-depth-k
unfolding slot_fits
returns-then-depth-k c = rw (le-ltb _ _ c.if-depth-k.true, slot_at c.args.slots.now c.args.k c.requires.0)

pub returns-then-k-eq0 : goal.returns-then-k-eq0
unfolding slot_fits
returns-then-k-eq0 c = rw (lt-ltb _ _ c.if-depth-k.false, eq-eqb _ _ c.if-k-eq0.true, slot_at c.args.slots.now c.args.k c.requires.0)

pub returns : goal.returns
unfolding slot_fits
returns c =
    rw (lt-ltb _ _ c.if-depth-k.false, ne_eqb _ _ c.if-k-eq0.false, slot_at c.args.slots.now c.args.k c.requires.0, slot_at c.args.slots.now (c.args.k - 1) (omega arith))
