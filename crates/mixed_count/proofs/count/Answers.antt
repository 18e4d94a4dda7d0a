-- `mixed_count::count` meets its contract. Assumes nothing.
use Prim.Native.Nat.{◌-◌}
use Rattle.mixed_count.proofs.Laws.{counted_start, counted_stop, counted-end, counted-more, counted-less, more-fits, step_fits, at-fits, items-fit, i-fits}
use Rattle.mixed_count.proofs.count.Goals as goal

pub loop-at-init : goal.loop-at-init
loop-at-init c = search counted_start

pub returns-then-l-eq0 : goal.returns-then-l-eq0
returns-then-l-eq0 c = search counted_stop

pub overflow_mul-at : goal.overflow_mul-at
overflow_mul-at c = search more-fits

pub overflow_add-at : goal.overflow_add-at
overflow_add-at c = search step_fits

pub overflow_add-at-in-loop-at : goal.overflow_add-at-in-loop-at
overflow_add-at-in-loop-at c = search at-fits

pub overflow_add-i : goal.overflow_add-i
overflow_add-i c = search items-fit

pub overflow_add-i-in-loop-at : goal.overflow_add-i-in-loop-at
overflow_add-i-in-loop-at c = search i-fits

pub loop-at-smaller : goal.loop-at-smaller
loop-at-smaller c = search counted-less

pub loop-at-preserved : goal.loop-at-preserved
loop-at-preserved c = search counted-more

pub returns : goal.returns
returns c = search counted-end
