-- `walk::step_binary` meets its contract. Assumes nothing.
use Rattle.walk_state.specs.Walking.{binary_step}
use Rattle.walk.proofs.step_binary.Goals as goal

pub returns : goal.returns
unfolding binary_step
returns c = rw (c.binary_item.ensures, c.step_in-r.ensures)
