-- `reading_text::read_text` meets its contract: case by case, and the found item by its part. Assumes nothing.
use mathlib.Core.Path.{sym, ◌∙◌}
use native.Mathlib.Omega.{arith}
use Rattle.format.specs.Reading.{value_left}
use Rattle.judging.proofs.Laws.{to_end}
use Rattle.reading_text.proofs.Answers.{text-long, text-past, text-refused, text-found, text-place, left-from}
use borrow.Author.Rules.{rules}
use Rattle.reading_text.proofs.read_text.Goals as goal

pub returns-then-s-gt4194304 : goal.returns-then-s-gt4194304
unfolding value_left
returns-then-s-gt4194304 c = record { value = c.no_text.ensures ∙ text-long _ _ _ (search rules); out_after = rw c.no_text.ensures }

pub returns-then-s-from : goal.returns-then-s-from
unfolding value_left
returns-then-s-from c = record { value = c.no_text-then-s-from.ensures ∙ text-past _ _ _ (search rules) (search rules); out_after = rw c.no_text-then-s-from.ensures }

pub overflow_add-from : goal.overflow_add-from
overflow_add-from c =
    let a = c.args in
    omega (arith, text-place a.s.now a.at.0 _ _ (rw (to_end a.s.now a.at.0) at (sym c.of_text.ensures ∙ c.in-Unframed.is)))

pub text_found-requires : goal.text_found-requires
text_found-requires c = (sym c.of_text.ensures ∙ c.in-Item.is, search rules)

pub returns-in-Unframed : goal.returns-in-Unframed
unfolding value_left
returns-in-Unframed c =
    let a = c.args in
    let e = rw (to_end a.s.now a.at.0) at (sym c.of_text.ensures ∙ c.in-Unframed.is) in
    record { value = c.no_text-in-Unframed.ensures ∙ text-refused a.s.now a.at.0 _ (search rules) _ _ e; out_after = rw c.no_text-in-Unframed.ensures }

pub returns-in-Item : goal.returns-in-Item
returns-in-Item c =
    let a = c.args in
    let e = rw (to_end a.s.now a.at.0) at (sym c.of_text.ensures ∙ c.in-Item.is) in
    let v = rw (to_end a.s.now a.at.0) at c.text_found.ensures.value in
    let o = rw (to_end a.s.now a.at.0) at c.text_found.ensures.out_after in
    record { value = text-found a.s.now a.at.0 _ (search rules) _ _ _ e _ v; out_after = o ∙ left-from _ a.s.now a.at.0 a.out.now }
