use borrow.Author.Tests.{lt-ltb, le-ltb}
use Rattle.format.specs.Framing.{fit}
use Rattle.framing_opening.proofs.fitted.Goals as goal

pub returns-then-len-size : goal.returns-then-len-size
unfolding fit
returns-then-len-size c = simp (lt-ltb _ _ c.if-len-size.true)

pub returns-else-len-size : goal.returns-else-len-size
unfolding fit
returns-else-len-size c = simp (le-ltb _ _ c.if-len-size.false)
