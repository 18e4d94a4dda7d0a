-- `walk_count::rest_in` meets its contract. The invariant: the items counted, and what is left from the present state, are what was left
-- from the first. The units behind the position grow fewer. Assumes nothing.
use native.Mathlib.Omega.{arith}
use Rattle.walk_count.proofs.Running.{begin, stop, inside, less, again}
use borrow.Author.Rules.{rules}
use Rattle.walk_count.proofs.rest_in.Goals as goal

pub loop-w-init : goal.loop-w-init
loop-w-init c = begin _ _ _ (search rules)

pub returns-in-Refused : goal.returns-in-Refused
returns-in-Refused c =
    stop _ _ _ _ _ c.loop-w.invariant _ c.step_in-t.ensures (rw c.in-Refused.is tt)

pub returns-in-End : goal.returns-in-End
returns-in-End c =
    stop _ _ _ _ _ c.loop-w.invariant _ c.step_in-t.ensures (rw c.in-End.is tt)

pub overflow_add-items : goal.overflow_add-items
overflow_add-items c =
    omega (
      arith,
      inside _ _ _ _ _ c.loop-w.invariant _ c.step_in-t.ensures
          (rw c.in-Item.is tt),
    )

pub loop-w-smaller : goal.loop-w-smaller
loop-w-smaller c =
    less _ _ _ _ _ c.loop-w.invariant _ c.step_in-t.ensures
    (rw c.in-Item.is tt)

pub loop-w-preserved : goal.loop-w-preserved
loop-w-preserved c =
    again _ _ _ _ _ c.loop-w.invariant _ c.step_in-t.ensures
    (rw c.in-Item.is tt)
