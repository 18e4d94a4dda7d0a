-- `writing_sizes::fill_for` meets its contract. Assumes nothing.
use Rattle.format.specs.Texts.{fill_for, text_count}
use native.Mathlib.Omega.{arith}
use Rattle.writing_sizes.proofs.fill_for.Goals as goal

pub returns : goal.returns
unfolding fill_for text_count
returns c = (omega arith, omega arith, omega arith)
