-- `reading_chars::quadlet_at` meets its contract. Assumes nothing.
use mathlib.Core.Path.{sym}
use Rattle.base.specs.Each.{take3}
use Rattle.laws.specs.Units.{read-unit-back}
use Rattle.reading_chars.proofs.quadlet_at.Goals as goal

pub returns : goal.returns
returns c =
    read-unit-back c.characters-characters.ensures (sym (take3 _ _ c.requires)) c.quadlet.ensures
