-- `second_report::count` meets its contract. Assumes nothing.
use Rattle.second_report.proofs.Counts.{counted_start, counted_stop, end_fits, less, counted-more}
use Rattle.second_report.proofs.count.Goals as goal

pub loop-size-init : goal.loop-size-init
loop-size-init c = search counted_start

pub overflow_add-start : goal.overflow_add-start
overflow_add-start c = search end_fits

pub loop-size-smaller : goal.loop-size-smaller
loop-size-smaller c = search less

pub loop-size-preserved : goal.loop-size-preserved
loop-size-preserved c = search counted-more

pub returns : goal.returns
returns c = counted_stop _ _ _ c.loop-size.invariant _ c.frame.ensures _ _ c.in_default.is
