-- `framing::frame_ruled_text` meets its contract. Assumes nothing.
use mathlib.Core.Bool.{false}
use Rattle.format.specs.Units.{text_sextets}
use Rattle.format.specs.Framing.{frame_ruled, frame}
use Rattle.framing.proofs.Laws.{by-ruled-head, text-units}
use Rattle.framing.proofs.frame_ruled_text.Goals as goal

pub returns : goal.returns
unfolding frame_ruled frame
returns c = rw (text-units) (by-ruled-head false (text_sextets c.args.s.now) _ _ _ c.text_head-head.ensures c.frame_ruled_head.ensures)
