-- Every turn leaves the rows of the items so far where they are to stand. Assumes nothing.
use Prim.Native.Nat.{◌-◌}
use Rattle.mixed_report.proofs.Laws.{reached-start, reached-more, bytes_fit, items-fit, refused-fit, falls, ends-rest, ends-whole}
use borrow.Author.Rules.{rules}
use Rattle.mixed_report.proofs.put_all.Goals as goal

pub loop-at-init : goal.loop-at-init
loop-at-init c = reached-start c.requires

pub returns-in-Rest : goal.returns-in-Rest
returns-in-Rest c = search ends-rest

pub overflow_add-at : goal.overflow_add-at
overflow_add-at c = search bytes_fit

pub overflow_add-stored : goal.overflow_add-stored
overflow_add-stored c = search items-fit

pub overflow_add-refused : goal.overflow_add-refused
overflow_add-refused c = search (refused-fit, rules)

pub loop-at-smaller : goal.loop-at-smaller
loop-at-smaller c = search falls

pub loop-at-preserved : goal.loop-at-preserved
loop-at-preserved c = search reached-more

pub shape_of-out : goal.shape_of-out
shape_of-out c = c.loop-at.invariant.long

pub returns : goal.returns
returns c = search ends-whole
