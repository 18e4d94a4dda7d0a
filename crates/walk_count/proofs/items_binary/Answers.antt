-- `walk_count::items_binary` meets its contract. What is left from the start. Assumes nothing.
use mathlib.Core.Path.{◌∙◌}
use Rattle.walk_count.proofs.items_binary.Goals as goal

pub returns : goal.returns
returns c = c.rest_binary.ensures ∙ rw c.new.ensures
