use Rattle.report_plain.proofs.Laws.{first-in, first_fits, size_fits, from-fits, end_fits, behind-fits, followed-none, followers-stored}
use Rattle.report_plain.proofs.put_within.Goals as goal

pub overflow_mul-x : goal.overflow_mul-x
overflow_mul-x c = search first_fits

pub bounds-s-u : goal.bounds-s-u
bounds-s-u c = search first-in

pub returns-then-limit-eq0 : goal.returns-then-limit-eq0
returns-then-limit-eq0 c = search followed-none

pub overflow_add-from : goal.overflow_add-from
overflow_add-from c = search behind-fits

pub overflow_mul-from : goal.overflow_mul-from
overflow_mul-from c = search from-fits

pub overflow_mul-u : goal.overflow_mul-u
overflow_mul-u c = search size_fits

pub overflow_mul-u-2 : goal.overflow_mul-u-2
overflow_mul-u-2 c = search end_fits

pub returns : goal.returns
returns c = search followers-stored
