-- `report_found::next` meets its contract. Assumes nothing.
use Rattle.report_found.proofs.Laws.{at-fits, stop-fits, text-end, binary-end, text-near, binary-near, text-found, binary-found}
use borrow.Author.Rules.{rules}
use Rattle.report_found.proofs.next.Goals as goal

pub overflow_mul-from : goal.overflow_mul-from
overflow_mul-from c = search (at-fits, rules)

pub overflow_mul-to : goal.overflow_mul-to
overflow_mul-to c = search (stop-fits, rules)

pub slice_bounds-next_text-end : goal.slice_bounds-next_text-end
slice_bounds-next_text-end c = search text-end

pub overflow_mul-at : goal.overflow_mul-at
overflow_mul-at c = search (at-fits, rules)

pub moved-requires : goal.moved-requires
moved-requires c = search text-near

pub overflow_mul-from-in-Binary : goal.overflow_mul-from-in-Binary
overflow_mul-from-in-Binary c = search (at-fits, rules)

pub overflow_mul-to-in-Binary : goal.overflow_mul-to-in-Binary
overflow_mul-to-in-Binary c = search (stop-fits, rules)

pub slice_bounds-next_binary-end : goal.slice_bounds-next_binary-end
slice_bounds-next_binary-end c = search binary-end

pub overflow_mul-at-in-Binary : goal.overflow_mul-at-in-Binary
overflow_mul-at-in-Binary c = search (at-fits, rules)

pub moved-requires-in-Binary : goal.moved-requires-in-Binary
moved-requires-in-Binary c = search binary-near

pub returns-in-Text : goal.returns-in-Text
returns-in-Text c = search text-found

pub returns-in-Binary : goal.returns-in-Binary
returns-in-Binary c = search binary-found
