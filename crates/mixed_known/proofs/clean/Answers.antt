-- `mixed_known::clean` meets its contract. Assumes nothing.
use native.Mathlib.Omega.{arith}
use Rattle.mixed_known.proofs.Laws.{clean-text, clean-binary}
use Rattle.mixed_known.proofs.clean.Goals as goal

pub returns-in-Text : goal.returns-in-Text
returns-in-Text c = let x = c.args in clean-text x.form x.s.now x.at x.to _ c.in-Text.is (omega arith)

pub returns-in-Binary : goal.returns-in-Binary
returns-in-Binary c = let x = c.args in clean-binary x.form x.s.now x.at x.to _ c.in-Binary.is
