-- `walk::next_item` meets its contract. Assumes nothing.
use Rattle.report_next.proofs.Laws.{text-part, binary-part}
use borrow.Author.Rules.{rules}
use Rattle.walk.proofs.next_item.Goals as goal

pub overflow_mul-from : goal.overflow_mul-from
overflow_mul-from c = let p = rw c.in-Text.is at c.requires in search rules

pub overflow_mul-to : goal.overflow_mul-to
overflow_mul-to c = let p = rw c.in-Text.is at c.requires in search rules

pub slice_bounds-next_text-end : goal.slice_bounds-next_text-end
slice_bounds-next_text-end c = let p = rw c.in-Text.is at c.requires in search rules

pub overflow_mul-from-in-Binary : goal.overflow_mul-from-in-Binary
overflow_mul-from-in-Binary c = let p = rw c.in-Binary.is at c.requires in search rules

pub overflow_mul-to-in-Binary : goal.overflow_mul-to-in-Binary
overflow_mul-to-in-Binary c = let p = rw c.in-Binary.is at c.requires in search rules

pub slice_bounds-next_binary-end : goal.slice_bounds-next_binary-end
slice_bounds-next_binary-end c = let p = rw c.in-Binary.is at c.requires in search rules

pub returns-in-Text : goal.returns-in-Text
returns-in-Text c =
    let q = c.in-Text.is in
    let p = rw q at c.requires in
    let e = text-part c.args.s.now c.args.p.at c.args.stop p.order in
    rw q (rw (e, c.is_asked-asked.ensures) at c.next_text.ensures)

pub returns-in-Binary : goal.returns-in-Binary
returns-in-Binary c =
    let q = c.in-Binary.is in
    let p = rw q at c.requires in
    let e = binary-part c.args.s.now c.args.p.at c.args.stop p.order p.room in
    rw q (rw (e, c.is_asked-asked.ensures) at c.next_binary.ensures)
