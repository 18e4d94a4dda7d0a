-- `indexed_name::name_of` meets its contract: the table by sextets. Assumes nothing.
use mathlib.Core.Path.{◌∙◌}
use Rattle.indexed_name.proofs.Names.{by-sextets}
use Rattle.indexed_name.proofs.name_of.Goals as goal

pub returns : goal.returns
returns c =
    let selector = c.selector_of-selector.ensures in
    let letter = c.sextet-letter.ensures in
    c.row_in.ensures ∙ rw (c.indexed-op.ensures, selector, letter) (by-sextets c.args.code)
