-- `framing::frame_ruled_binary` meets its contract. Assumes nothing.
use mathlib.Core.Bool.{false}
use Rattle.format.specs.Units.{binary_sextets}
use Rattle.format.specs.Framing.{frame_ruled, frame}
use Rattle.framing.proofs.Laws.{by-ruled-head, binary-units}
use Rattle.framing.proofs.frame_ruled_binary.Goals as goal

pub returns : goal.returns
unfolding frame_ruled frame
returns c = rw (binary-units) (by-ruled-head false (binary_sextets c.args.s.now) _ _ _ c.binary_head-head.ensures c.frame_ruled_head.ensures)
