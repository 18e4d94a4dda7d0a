-- `to_text` meets its contract. Assumes nothing.
use mathlib.Core.Path.{◌∙◌}
use Rattle.convert_unpack.proofs.Left.{all_first}
use Rattle.convert_unpack.proofs.to_text.Goals as goal

pub returns : goal.returns
returns c = c.first_units.ensures ∙ all_first _ _
