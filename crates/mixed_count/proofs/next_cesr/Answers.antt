-- `mixed_count::next_cesr` meets its contract. Assumes nothing.
use Rattle.mixed_count.proofs.Laws.{bytes_fit, in_bytes}
use borrow.Author.Rules.{rules}
use Rattle.mixed_count.proofs.next_cesr.Goals as goal

pub overflow_mul-result : goal.overflow_mul-result
overflow_mul-result c = let x = c.args in bytes_fit x.form x.tables.now x.s.now x.at x.to _ _ _ _ c.unit.ensures c.begun-l.ensures (search rules)

pub returns : goal.returns
returns c = let x = c.args in in_bytes x.form x.tables.now x.s.now x.at x.to _ _ _ _ c.unit.ensures c.begun-l.ensures c.clean-clean.ensures (search rules)
