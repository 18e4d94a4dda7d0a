-- `indexed_binary::binary_found` meets its contract: what indexed_item says holds, since the part is read. Assumes nothing.
use Rattle.indexed_binary.proofs.Answers.{binary-item}
use Rattle.indexed_binary.proofs.binary_found.Goals as goal

pub returns : goal.returns
returns c =
    binary-item c.args.part.now _ _ _ c.requires _ _ c.binary_head-cs.ensures c.within-own.ensures _ c.item_of.ensures
