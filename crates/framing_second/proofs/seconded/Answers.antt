use borrow.Author.Tests.{lt-ltb, le-ltb}
use Rattle.format.specs.Framing.{second}
use Rattle.framing_second.proofs.seconded.Goals as goal

pub returns-then-len-lt2 : goal.returns-then-len-lt2
unfolding second
returns-then-len-lt2 c = simp (lt-ltb _ _ c.if-len-lt2.true)

pub returns : goal.returns
unfolding second
returns c = simp (le-ltb _ _ c.if-len-lt2.false) c.known_second.ensures
