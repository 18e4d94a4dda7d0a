-- `walk_state::close` meets its contract. The invariant: closing what is left gives what closing all gave. Assumes nothing.
use mathlib.Core.Path.{◌≡◌}
use Prim.Native.Nat.{◌+◌, ◌-◌}
use native.Mathlib.Omega.{arith}
use Rattle.walk_state.proofs.Lent.{closing-more, closing-stops, closing-ends}
use borrow.Author.Rules.{rules}
use Rattle.walk_state.proofs.close.Goals as goal

pub returns-then-slots-top : goal.returns-then-slots-top
returns-then-slots-top c =
    let e : c.loop-top.top - 1 + 1 ≡ c.loop-top.top = omega arith in
    rw e (closing-stops c.loop-top.invariant (search rules) (search rules) c.if-slots-top.true)

pub loop-top-preserved : goal.loop-top-preserved
loop-top-preserved c = closing-more c.loop-top.invariant (search rules) (search rules) c.if-slots-top.false

pub returns : goal.returns
returns c = let e : c.loop-top.top ≡ 0 = omega arith in rw e at (closing-ends c.loop-top.invariant (omega arith))
