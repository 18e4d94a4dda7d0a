-- `reading_found::found_at` meets its contract: case by case, and the found item by its part. Assumes nothing.
use mathlib.Core.Path.{sym, ◌∙◌}
use Rattle.judging.proofs.Laws.{to_end}
use Rattle.reading_found.proofs.Answers.{binary-long, binary-past, binary-refused, binary-found}
use borrow.Author.Rules.{rules}
use Rattle.reading_found.proofs.found_at.Goals as goal

pub returns-then-s-gt3145728 : goal.returns-then-s-gt3145728
returns-then-s-gt3145728 c = c.no_binary.ensures ∙ binary-long _ _ _ (search rules)

pub returns-then-s-from : goal.returns-then-s-from
returns-then-s-from c = c.no_binary-then-s-from.ensures ∙ binary-past _ _ _ (search rules) (search rules)

pub binary_found-requires : goal.binary_found-requires
binary_found-requires c = (sym c.of_binary.ensures ∙ c.in-Item.is, search rules)

pub returns-in-Unframed : goal.returns-in-Unframed
returns-in-Unframed c =
    let a = c.args in
    c.no_binary-in-Unframed.ensures
    ∙ binary-refused a.s.now a.at.0 _ (search rules) _ _ (rw (to_end a.s.now a.at.0) at (sym c.of_binary.ensures ∙ c.in-Unframed.is))

pub returns-in-Item : goal.returns-in-Item
returns-in-Item c =
    let a = c.args in
    let e = rw (to_end a.s.now a.at.0) at (sym c.of_binary.ensures ∙ c.in-Item.is) in
    binary-found a.s.now a.at.0 _ (search rules) _ _ _ e _ (rw (to_end a.s.now a.at.0) at c.binary_found.ensures)
