-- `raw_size` meets its contract. Assumes nothing.
use Rattle.format.specs.Writing.{raw_size}
use Rattle.laws.specs.Offsets.{in-binary-is}
use Rattle.writing_code.proofs.raw_size.Goals as goal

pub returns : goal.returns
unfolding raw_size
returns c =
    rw (c.saturating_sub.ensures, in-binary-is _ c.in_binary-full.ensures, c.fixed_start-start.ensures.0, c.from.ensures)
