-- `report_turn::put_signed` meets its contract. The invariant: the groups up to a unit are stored, and the next one is told. Assumes nothing.
use Prim.Native.Nat.{◌-◌}
use native.Mathlib.Omega.{arith}
use Rattle.report_general.proofs.Laws.{placed-fits, sized-fits}
use Rattle.report_turn.proofs.Laws.{passed_start, next_fits, next-in, next-less, passed-more, passed-some, passed-fill, passed-again}
use borrow.Author.Rules.{rules}
use Rattle.report_turn.proofs.put_signed.Goals as goal

pub loop-size-init : goal.loop-size-init
loop-size-init c =
    (passed_start (rw (← c.units.ensures) c.min-end.ensures) c.requires, c.first_signed-size.ensures)

pub overflow_mul-u : goal.overflow_mul-u
overflow_mul-u c = let h = placed-fits c.loop-size.invariant.0.placed in search rules

pub overflow_mul-u-in-loop-size : goal.overflow_mul-u-in-loop-size
overflow_mul-u-in-loop-size c =
    let I = c.loop-size.invariant in
    let h = sized-fits I.0.placed _ (next_fits I.0 I.1) in search rules

pub put_taken-requires : goal.put_taken-requires
put_taken-requires c = let P = c.loop-size.invariant.0.placed in omega (arith, P.items, P.most)

pub overflow_add-at : goal.overflow_add-at
overflow_add-at c =
    let I = c.loop-size.invariant in
    let h = next-in I.0 I.1 in search rules

pub overflow_add-stored : goal.overflow_add-stored
overflow_add-stored c = let h = placed-fits c.loop-size.invariant.0.placed in search rules

pub loop-size-smaller : goal.loop-size-smaller
loop-size-smaller c =
    let I = c.loop-size.invariant in
    next-less I.0 I.1 c.loop-size-test.true

pub loop-size-preserved : goal.loop-size-preserved
loop-size-preserved c =
    let I = c.loop-size.invariant in
    (passed-more I.0 I.1 c.loop-size-test.true _ c.put_taken.ensures, c.next_signed-size.ensures)

pub overflow_sub-units : goal.overflow_sub-units
overflow_sub-units c = c.loop-size.invariant.0.from

pub overflow_sub-items : goal.overflow_sub-items
overflow_sub-items c = c.loop-size.invariant.0.since

pub shape_of-out-then-here-at : goal.shape_of-out-then-here-at
shape_of-out-then-here-at c = c.loop-size.invariant.0.long

pub returns-then-here-at : goal.returns-then-here-at
returns-then-here-at c = passed-some c.loop-size.invariant.0 c.if-here-at.true

pub returns : goal.returns
returns c = λ L K Φ o φ.
    let S = c.loop-size.invariant.0 in
    c.put_other.ensures L K (passed-again S c.if-here-at.false L K Φ) o (passed-fill S c.if-here-at.false L K Φ o φ)
