-- `groups_header::characters` meets its contract. Assumes nothing.
use Rattle.groups_header.proofs.Laws.{four}
use borrow.Author.Rules.{rules}
use Rattle.groups_header.proofs.characters.Goals as goal

pub returns : goal.returns
returns c =
    four c.args.u _ _ _ _ (search rules) c.character.ensures c.character-2.ensures c.character-3.ensures
    c.character-4.ensures
