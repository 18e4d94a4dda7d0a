-- `groups_put::put_group` meets its contract: the buffer as it was, or a group. Assumes nothing.
use Rattle.groups_put.proofs.Laws.{not_there, no_room, fits-front, is-group}
use borrow.Author.Rules.{rules}
use Rattle.groups_put.proofs.put_group.Goals as goal

pub returns-then-buf-len : goal.returns-then-buf-len
returns-then-buf-len c =
    let a = c.args in
    not_there a.form a.letter a.len a.buf.now (search rules)

pub returns-then-buf-len-2 : goal.returns-then-buf-len-2
returns-then-buf-len-2 c =
    let a = c.args in
    no_room a.form a.letter a.len a.buf.now (search rules) _ c.head_size-h.ensures (search rules)

pub put_front-requires : goal.put_front-requires
put_front-requires c =
    let a = c.args in
    fits-front a.form a.letter a.len a.buf.now (search rules) _ c.head_size-h.ensures (search rules)

pub returns : goal.returns
returns c =
    let a = c.args in
    is-group a.form a.letter a.len a.buf.now (search rules) _ c.head_size-h.ensures (search rules) _ _ _ c.units-n.ensures c.header-head.ensures c.put_front.ensures
