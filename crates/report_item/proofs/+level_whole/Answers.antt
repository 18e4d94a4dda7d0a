-- The loop over a group's items and the step that judges the next one whole meet their contracts. Assumes nothing.
use Rattle.std.proofs.Common.{rules}
use Rattle.report_found.proofs.Laws.{inner-inside, inner-levels, inner-falls, head-fits, size_fits, inside_on}
use Rattle.report_item.proofs.Laws.{by-refused, by-own, by-contents, left-start, left-on, left-stop, left_end, next_fits, less-left}
use Rattle.report_item.proofs.+level_whole.Goals as goal

pub level-loop-i-init : goal.level-loop-i-init
level-loop-i-init t c = search left-start

pub level-whole-requires : goal.level-whole-requires
level-whole-requires t c = search (inside_on, rules)

pub level-returns-in-Unframed : goal.level-returns-in-Unframed
level-returns-in-Unframed t c = search left-stop

pub level-overflow_add-i : goal.level-overflow_add-i
level-overflow_add-i t c = search next_fits

pub level-loop-i-smaller : goal.level-loop-i-smaller
level-loop-i-smaller t c = search less-left

pub level-loop-i-preserved : goal.level-loop-i-preserved
level-loop-i-preserved t c = search left-on

pub level-returns : goal.level-returns
level-returns t c = search left_end

pub whole-overflow_sub-levels : goal.whole-overflow_sub-levels
whole-overflow_sub-levels t c = search inner-levels

pub whole-overflow_add-at : goal.whole-overflow_add-at
whole-overflow_add-at t c = search (head-fits, size_fits)

pub whole-overflow_add-at-then-is_entered : goal.whole-overflow_add-at-then-is_entered
whole-overflow_add-at-then-is_entered t c = search (head-fits, size_fits)

pub whole-level-v-requires : goal.whole-level-v-requires
whole-level-v-requires t c = search (inner-falls, inner-inside)

pub whole-returns-in-Unframed : goal.whole-returns-in-Unframed
whole-returns-in-Unframed t c = search by-refused

pub whole-returns-then-is_entered : goal.whole-returns-then-is_entered
whole-returns-then-is_entered t c = search by-contents

pub whole-returns-else-is_entered : goal.whole-returns-else-is_entered
whole-returns-else-is_entered t c = search by-own
