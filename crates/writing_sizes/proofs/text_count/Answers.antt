-- `writing_sizes::text_count` meets its contract: one more than the whole quadlets where there is a fill. Assumes nothing.
use native.Mathlib.Omega.{arith}
use Rattle.format.specs.Texts.{fill_for, text_count}
use Rattle.writing_sizes.proofs.text_count.Goals as goal

pub returns : goal.returns
unfolding text_count fill_for
returns c = (omega arith, omega arith)
