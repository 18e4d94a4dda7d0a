-- `second_report::report` meets its contract. Assumes nothing.
use Rattle.second_report.proofs.Rows.{no_room, reached-start, refusals-fit, rows_fit, end-asks, written-end, written-rest, item-asks, end_fits, less, k-fits, reached-more}
use Rattle.second_report.proofs.report.Goals as goal

pub returns-then-out-n : goal.returns-then-out-n
returns-then-out-n c = search no_room

pub loop-start-init : goal.loop-start-init
loop-start-init c = search reached-start

pub put_end-requires : goal.put_end-requires
put_end-requires c = search end-asks

pub returns-in-Unframed : goal.returns-in-Unframed
returns-in-Unframed c = search written-rest

pub overflow_mul-k : goal.overflow_mul-k
overflow_mul-k c = search refusals-fit

pub overflow_add-n-in-Item-2 : goal.overflow_add-n-in-Item-2
overflow_add-n-in-Item-2 c =
    rows_fit c.loop-start.invariant

pub put_at-k-requires : goal.put_at-k-requires
put_at-k-requires c =
    item-asks c.loop-start.invariant c.loop-start-test.true _ c.next.ensures _ _ c.in-Item.is

pub overflow_add-k : goal.overflow_add-k
overflow_add-k c = search k-fits

pub overflow_add-start : goal.overflow_add-start
overflow_add-start c =
    end_fits c.loop-start.invariant c.loop-start-test.true _ c.next.ensures _ _ c.in-Item.is

pub loop-start-smaller : goal.loop-start-smaller
loop-start-smaller c =
    less c.loop-start.invariant c.loop-start-test.true _ c.next.ensures _ _ c.in-Item.is

pub loop-start-preserved : goal.loop-start-preserved
loop-start-preserved c =
    reached-more c.loop-start.invariant c.loop-start-test.true _ c.next.ensures _ _ c.in-Item.is _ _ c.put_at-k.ensures c.put_at-k.auto.out

pub put_end-requires-2 : goal.put_end-requires-2
put_end-requires-2 c = search end-asks

pub returns : goal.returns
returns c = search written-end
