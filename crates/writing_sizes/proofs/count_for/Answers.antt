-- `writing_sizes::count_for` meets its contract: one more than the whole triplets where there is a lead. Assumes nothing.
use native.Mathlib.Omega.{arith}
use Rattle.format.specs.Writing.{lead_for, count_for}
use Rattle.writing_sizes.proofs.count_for.Goals as goal

pub returns : goal.returns
unfolding count_for lead_for
returns c = (omega arith, omega arith)
