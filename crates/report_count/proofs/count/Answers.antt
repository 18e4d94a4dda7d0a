use Prim.Native.Nat.{◌-◌}
use Rattle.report_count.proofs.Laws.{counting-start, counting-fits, counting-end, counting-stop, units-fit, items-fit, falls, counting-next}
use borrow.Author.Rules.{rules}
use Rattle.report_count.proofs.count.Goals as goal

pub loop-a-init : goal.loop-a-init
loop-a-init c = search counting-start

pub overflow_mul-u : goal.overflow_mul-u
overflow_mul-u c = let h = counting-fits c.loop-a.invariant in search rules

pub returns-then-l-eq0 : goal.returns-then-l-eq0
returns-then-l-eq0 c = search counting-stop

pub overflow_add-a : goal.overflow_add-a
overflow_add-a c = search units-fit

pub overflow_add-i : goal.overflow_add-i
overflow_add-i c = search items-fit

pub loop-a-smaller : goal.loop-a-smaller
loop-a-smaller c = search falls

pub loop-a-preserved : goal.loop-a-preserved
loop-a-preserved c = search counting-next

pub returns : goal.returns
returns c = search counting-end
