-- `walk_fit::stop` meets its contract. Past the slots an end reads as 0. Assumes nothing.
use mathlib.Core.Path.{sym}
use Prim.Native.Nat.{◌-◌}
use native.Mathlib.Omega.{arith}
use lib.ListN.{get_or-eq_default}
use lib.Seq.{length-take-le}
use borrow.Author.Tests.{eq-eqb, ne_eqb}
use Rattle.format.specs.Judging.{max_depth}
use Rattle.walk_state.specs.Walking.{stop_of}
use Rattle.walk_state.specs.Lent.{slots_in}
use Rattle.walk_state.proofs.Lent.{slot_at}
use Rattle.walk_fit.proofs.stop.Goals as goal

pub returns-then-depth-eq0 : goal.returns-then-depth-eq0
unfolding stop_of
returns-then-depth-eq0 c = λ l. rw (eq-eqb _ _ c.if-depth-eq0.true)

pub returns-then-depth-gt-MAX_DEPTH : goal.returns-then-depth-gt-MAX_DEPTH
unfolding stop_of
returns-then-depth-gt-MAX_DEPTH c = λ l.
    let s = c.args.slots.now in
    rw (ne_eqb _ _ c.if-depth-eq0.false) (sym (get_or-eq_default (slots_in s) 0 (omega (arith, length-take-le max_depth s l))))

pub returns : goal.returns
unfolding stop_of
returns c = λ l.
    let a = c.args in
    rw (ne_eqb _ _ c.if-depth-eq0.false, slot_at a.slots.now (a.p.depth - 1) (omega arith))
