-- `report_found::found` meets its contract. Assumes nothing.
use Rattle.report_found.proofs.Laws.{here, past-limit, past_end, none_left}
use borrow.Author.Rules.{rules}
use Rattle.report_found.proofs.found.Goals as goal

pub returns-then-s-gt-LONGEST : goal.returns-then-s-gt-LONGEST
returns-then-s-gt-LONGEST c = search past-limit

pub returns-then-units-stop : goal.returns-then-units-stop
returns-then-units-stop c = search past_end

pub returns-then-stop-at : goal.returns-then-stop-at
returns-then-stop-at c = search none_left

pub next-requires : goal.next-requires
next-requires c = here _ _ _ _ _ _ c.if-units-stop.false c.if-s-gt-LONGEST.false c.if-stop-at.false (search rules) (search rules)

pub returns : goal.returns
returns c = c.next.ensures
