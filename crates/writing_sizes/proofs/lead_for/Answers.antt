-- `writing_sizes::lead_for` meets its contract. Assumes nothing.
use native.Mathlib.Omega.{arith}
use Rattle.format.specs.Writing.{lead_for}
use Rattle.writing_sizes.proofs.lead_for.Goals as goal

pub returns : goal.returns
unfolding lead_for
returns c = (omega arith, omega arith)
