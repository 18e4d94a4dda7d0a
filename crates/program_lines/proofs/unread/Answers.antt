-- `program_lines::unread` meets its contract. Assumes nothing.
use mathlib.Core.Path.{refl}
use Rattle.program_lines.specs.Lines.{unread_line}
use Rattle.program_lines.proofs.unread.Goals as goal

pub returns : goal.returns
unfolding unread_line
returns c = refl
