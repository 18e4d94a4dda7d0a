-- `runs_text::sized_text` meets its contract. Assumes nothing.
use mathlib.Core.Path.{◌∙◌}
use Rattle.runs_text.proofs.Laws.{text-past}
use Rattle.runs_text.proofs.sized_text.Goals as goal

pub returns-then-s-at : goal.returns-then-s-at
returns-then-s-at c = text-past _ _ _ _ c.if-s-at.true

pub returns : goal.returns
returns c = c.sized.ensures ∙ c.unit-u.ensures _
