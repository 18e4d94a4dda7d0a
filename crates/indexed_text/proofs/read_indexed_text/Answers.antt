-- `indexed_text::read_indexed_text` meets its contract: case by case, and the found item by its part. Assumes nothing.
use mathlib.Core.Path.{refl, sym, ◌∙◌}
use native.Mathlib.Omega.{arith}
use Rattle.format.specs.Indexed.{indexed_left}
use Rattle.judging.proofs.Laws.{to_end}
use Rattle.indexed_text.proofs.Answers.{text-long, text-past, text-refused, text-found, text-place, left-from, begun-at}
use borrow.Author.Rules.{rules}
use Rattle.indexed_text.proofs.read_indexed_text.Goals as goal

pub returns-then-s-gt4194304 : goal.returns-then-s-gt4194304
unfolding indexed_left
returns-then-s-gt4194304 c = record { value = text-long _ _ _ (search rules); out_after = refl }

pub returns-then-s-from : goal.returns-then-s-from
unfolding indexed_left
returns-then-s-from c = record { value = text-past _ _ _ (search rules) (search rules); out_after = refl }

pub overflow_add-result : goal.overflow_add-result
overflow_add-result c =
    let a = c.args in
    omega (arith, text-place a.s.now a.at.0 _ _ (rw (to_end a.s.now a.at.0) at (sym c.of_text.ensures ∙ c.in-Unframed.is)))

pub returns-in-Unframed : goal.returns-in-Unframed
unfolding indexed_left
returns-in-Unframed c =
    let a = c.args in
    let e = rw (to_end a.s.now a.at.0) at (sym c.of_text.ensures ∙ c.in-Unframed.is) in
    record { value = text-refused a.s.now a.at.0 _ (search rules) _ _ e; out_after = refl }

pub returns-in-Item : goal.returns-in-Item
returns-in-Item c =
    let a = c.args in
    let e = rw (to_end a.s.now a.at.0) at (sym c.of_text.ensures ∙ c.in-Item.is) in
    let b = begun-at a.s.now a.at.0 _ _ _ e (search rules) in
    let v = rw (to_end a.s.now a.at.0) at c.text_found.ensures.value in
    let o = rw (to_end a.s.now a.at.0) at c.text_found.ensures.out_after in
    record { value = text-found a.s.now a.at.0 _ (search rules) _ _ _ e _ (v b); out_after = o b ∙ left-from _ a.s.now a.at.0 a.out.now }
