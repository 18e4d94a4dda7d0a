-- `pieces_numbers::has_lead` meets its contract. Assumes nothing.
use borrow.Author.Tests.{lt-ltb, le-ltb}
use Rattle.format.specs.Judging.{has_lead}
use Rattle.pieces_numbers.proofs.has_lead.Goals as goal

pub returns-then-lead-gt0 : goal.returns-then-lead-gt0
unfolding has_lead
returns-then-lead-gt0 c = simp (lt-ltb _ _ c.if-lead-gt0.true)

pub returns-else-lead-gt0 : goal.returns-else-lead-gt0
unfolding has_lead
returns-else-lead-gt0 c = simp (le-ltb _ _ c.if-lead-gt0.false)
