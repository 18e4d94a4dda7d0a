-- `walk_count::items_text` meets its contract. What is left from the start. Assumes nothing.
use mathlib.Core.Path.{◌∙◌}
use Rattle.walk_count.proofs.items_text.Goals as goal

pub returns : goal.returns
returns c = c.rest_text.ensures ∙ rw c.new.ensures
