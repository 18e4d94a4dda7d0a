-- `convert_unpack_units::first_units` meets its contract. Assumes nothing.
use mathlib.Core.Path.{sym, ◌∙◌}
use Rattle.convert_unpack_units.proofs.First.{too_few, no_room, written}
use borrow.Author.Rules.{rules}
use Rattle.convert_unpack_units.proofs.first_units.Goals as goal

pub returns-then-src-n : goal.returns-then-src-n
returns-then-src-n c = sym (too_few _ _ _ (search rules))

pub returns-then-dst-n : goal.returns-then-dst-n
returns-then-dst-n c = sym (no_room _ _ _ (search rules) (search rules))

pub returns : goal.returns
returns c = c.unpack.ensures ∙ sym (written _ _ _ (search rules) (search rules))
