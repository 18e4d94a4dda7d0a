-- `program_lines::unwritten` meets its contract. Assumes nothing.
use mathlib.Core.Path.{refl}
use Rattle.program_lines.specs.Lines.{unwritten_line}
use Rattle.program_lines.proofs.unwritten.Goals as goal

pub returns : goal.returns
unfolding unwritten_line
returns c = refl
