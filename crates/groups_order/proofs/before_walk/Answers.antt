-- `groups_order::before_walk` meets its contract: in order. Assumes nothing.
use borrow.Author.Tests.{not-true, not-false}
use Rattle.groups_order.proofs.Laws.{within-limit, unit-some, too_short, too_long, no-letter, not-whole, to-walk}
use borrow.Author.Rules.{rules}
use Rattle.groups_order.proofs.before_walk.Goals as goal

pub returns-then-room-len : goal.returns-then-room-len
returns-then-room-len c = too_short _ _ _ _ (search rules)

pub overflow_sub-limit : goal.overflow_sub-limit
overflow_sub-limit c = within-limit c.args.form _ _ c.head_size-head.ensures.1 c.limit.ensures

pub returns-then-limit-head : goal.returns-then-limit-head
returns-then-limit-head c =
    let a = c.args in
    too_long a.form a.letter a.len a.room (search rules) _ _ c.head_size-head.ensures c.limit.ensures c.if-limit-head.true

pub returns-then-not-is_group : goal.returns-then-not-is_group
returns-then-not-is_group c =
    let a = c.args in
    no-letter a.form a.letter a.len a.room (search rules) _ _ c.head_size-head.ensures c.limit.ensures c.if-limit-head.false _ c.sextet-l.ensures _ c.is_group.ensures c.if-not-is_group.true

pub nonzero_rem-len : goal.nonzero_rem-len
nonzero_rem-len c = unit-some c.args.form _ c.unit.ensures

pub returns-then-len-unit-ne0 : goal.returns-then-len-unit-ne0
returns-then-len-unit-ne0 c =
    let a = c.args in
    not-whole a.form a.letter a.len a.room (search rules) _ _ c.head_size-head.ensures c.limit.ensures c.if-limit-head.false _ c.sextet-l.ensures _ c.is_group.ensures c.if-not-is_group.false _ c.unit.ensures c.if-len-unit-ne0.true

pub returns : goal.returns
returns c =
    let a = c.args in
    to-walk a.form a.letter a.len a.room (search rules) _ _ c.head_size-head.ensures c.limit.ensures c.if-limit-head.false _ c.sextet-l.ensures _ c.is_group.ensures c.if-not-is_group.false _ c.unit.ensures c.if-len-unit-ne0.false
