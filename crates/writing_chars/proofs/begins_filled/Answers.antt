-- `writing_chars::begins_filled` meets its contract: `A` is 0. Assumes nothing.
use Rattle.writing_chars.proofs.Strange.{not-filled, first-fills}
use Rattle.writing_chars.proofs.begins_filled.Goals as goal

pub returns-then-chars-eq0 : goal.returns-then-chars-eq0
returns-then-chars-eq0 c = not-filled _ c.if-chars-eq0.true

pub returns : goal.returns
returns c = first-fills _ _ c.if-chars-eq0.false c.sextet.ensures
