-- `walk::step_text` meets its contract. Assumes nothing.
use Rattle.walk_state.specs.Walking.{text_step}
use Rattle.walk.proofs.step_text.Goals as goal

pub returns : goal.returns
unfolding text_step
returns c = rw (c.text_item.ensures, c.step_in-r.ensures)
