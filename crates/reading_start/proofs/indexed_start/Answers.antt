-- `reading_start::indexed_start` meets its contract. Assumes nothing.
use native.Mathlib.Omega.{arith}
use Rattle.format.specs.Values.{raw_start}
use Rattle.reading_start.proofs.indexed_start.Goals as goal

pub returns : goal.returns
unfolding raw_start
returns c = (omega arith, omega arith)
