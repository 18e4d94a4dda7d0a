-- `writing_sizes::text_lead` meets its contract: one less than the fill, none without one. Assumes nothing.
use native.Mathlib.Omega.{arith}
use Rattle.format.specs.Texts.{text_lead}
use Rattle.writing_sizes.proofs.text_lead.Goals as goal

pub returns : goal.returns
unfolding text_lead
returns c = (omega arith, omega arith)
