-- `reading_text::text_found` meets its contract: 3, or the item told and its value copied, since the part is read. Assumes nothing.
use mathlib.Core.Path.{sym, ◌∙◌}
use native.Mathlib.Omega.{arith}
use lib.Seq.{length-take-le}
use borrow.Author.Tests.{ltb-true, ltb-false}
use Rattle.format.specs.Reading.{value_left}
use Rattle.reading_text.proofs.Answers.{item_room, no_room, text-item, value-copied}
use Rattle.reading_text.proofs.text_found.Goals as goal

pub returns-then-lacks : goal.returns-then-lacks
unfolding value_left
returns-then-lacks c =
    record { value = c.no_text.ensures ∙ no_room c.args.part.now _ _ _ c.requires.0 c.requires.1 _ _ c.text_item-read.ensures c.args.out.now (ltb-true _ _ (sym c.lacks.ensures ∙ c.if-lacks.true)); out_after = rw c.no_text.ensures }

pub overflow_mul-end : goal.overflow_mul-end
overflow_mul-end c =
    omega (arith, item_room c.args.part.now _ _ _ c.requires.0 c.requires.1)

pub slice_bounds-copy_value-end : goal.slice_bounds-copy_value-end
slice_bounds-copy_value-end c =
    sym (length-take-le _ _ (item_room c.args.part.now _ _ _ c.requires.0 c.requires.1))

pub returns : goal.returns
returns c =
    let w = c.text_item-read.ensures in
    let r = ltb-false _ _ (sym c.lacks.ensures ∙ c.if-lacks.false) in
    record {
      value = text-item c.args.part.now _ _ _ c.requires.0 c.requires.1 _ _ w c.args.out.now r;
      out_after = value-copied c.args.part.now _ _ _ c.requires.0 c.requires.1 _ _ w c.args.out.now _ r c.copy_value.ensures;
    }
