-- `indexed_binary::read_indexed_binary` meets its contract: case by case, and the found item by its part. Assumes nothing.
use mathlib.Core.Path.{sym, ◌∙◌}
use Rattle.judging.proofs.Laws.{to_end}
use Rattle.indexed_binary.proofs.Answers.{binary-long, binary-past, binary-refused, binary-found}
use borrow.Author.Rules.{rules}
use Rattle.indexed_binary.proofs.read_indexed_binary.Goals as goal

pub returns-then-s-gt3145728 : goal.returns-then-s-gt3145728
returns-then-s-gt3145728 c = binary-long _ _ (search rules)

pub returns-then-s-from : goal.returns-then-s-from
returns-then-s-from c = binary-past _ _ (search rules) (search rules)

pub binary_found-requires : goal.binary_found-requires
binary_found-requires c = sym c.of_binary.ensures ∙ c.in-Item.is

pub returns-in-Unframed : goal.returns-in-Unframed
returns-in-Unframed c =
    let a = c.args in
    binary-refused a.s.now a.at.0 (search rules) _ _ (rw (to_end a.s.now a.at.0) at (sym c.of_binary.ensures ∙ c.in-Unframed.is))

pub returns-in-Item : goal.returns-in-Item
returns-in-Item c =
    let a = c.args in
    let e = rw (to_end a.s.now a.at.0) at (sym c.of_binary.ensures ∙ c.in-Item.is) in
    binary-found a.s.now a.at.0 (search rules) _ _ _ e _ (rw (to_end a.s.now a.at.0) at c.binary_found.ensures)
