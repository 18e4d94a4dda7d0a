-- `indexed_fit::raw_size` meets its contract. Assumes nothing.
use Rattle.format.specs.Values.{raw_start}
use Rattle.format.specs.Indexed.{indexed_raw_size}
use Rattle.indexed_fit.proofs.raw_size.Goals as goal

pub returns : goal.returns
unfolding indexed_raw_size raw_start
returns c = rw (c.saturating_sub.ensures, c.units_of-full.ensures.0, c.indexed_start-start.ensures.0)
