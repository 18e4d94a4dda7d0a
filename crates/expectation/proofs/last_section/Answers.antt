-- `last_section` meets its contract. Assumes nothing.
use Rattle.expectation.proofs.Laws.{end_short, bytes_left, too_many, none_left, one_left}
use borrow.Author.Rules.{rules}
use Rattle.expectation.proofs.last_section.Goals as goal

pub returns-in_err-count : goal.returns-in_err-count
returns-in_err-count c = rw c.from_residual.ensures (end_short c.args.s.now c.args.from _ c.args.items c.in_err-count.ensures)

pub returns-then-end-s : goal.returns-then-end-s
returns-then-end-s c = bytes_left _ _ _ c.args.items c.in_ok-count.field-0 c.in_ok-count.ensures c.if-end-s.true

pub returns-then-count-gt1 : goal.returns-then-count-gt1
returns-then-count-gt1 c = too_many _ _ _ c.args.items c.in_ok-count.field-0 c.in_ok-count.ensures c.if-end-s.false c.if-count-gt1.true

pub returns-then-count-eq0 : goal.returns-then-count-eq0
returns-then-count-eq0 c = none_left _ _ _ _ c.in_ok-count.field-0 c.in_ok-count.ensures c.if-end-s.false c.if-count-eq0.true

pub returns : goal.returns
returns c = one_left _ _ _ _ c.in_ok-count.field-0 c.in_ok-count.ensures c.if-end-s.false (search rules) c.if-count-eq0.false
