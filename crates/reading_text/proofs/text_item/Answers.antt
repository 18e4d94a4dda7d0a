-- `reading_text::text_item` meets its contract: what reading_item says holds, since the part is read. Assumes nothing.
use Rattle.reading_text.proofs.Answers.{item-told}
use Rattle.reading_text.proofs.text_item.Goals as goal

pub returns : goal.returns
returns c =
    item-told c.args.part.now _ _ _ c.requires.0 c.requires.1 _ _ _ _ _ _ c.text_head-cs.ensures c.within-own.ensures c.text_start-start.ensures c.text_size-text.ensures c.primitive_of-item.ensures c.tag_of-tag.ensures
