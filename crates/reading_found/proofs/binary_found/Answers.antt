-- `reading_found::binary_found` meets its contract: what reading_item says holds, since the part is read. Assumes nothing.
use Rattle.reading_found.proofs.Answers.{binary-item}
use Rattle.reading_found.proofs.binary_found.Goals as goal

pub returns : goal.returns
returns c =
    binary-item c.args.part.now _ _ _ c.requires.0 c.requires.1 _ _ _ _ _ _ c.binary_head-cs.ensures c.within-own.ensures c.text_start-start.ensures c.text_size-text.ensures c.primitive_of-p.ensures c.tag_of-tag.ensures
