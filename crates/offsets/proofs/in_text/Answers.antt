use native.Mathlib.Omega.{arith}
use borrow.Author.Tests.{le-leb, lt-leb}
use Rattle.format.specs.Offsets.{offset_in_text}
use Rattle.offsets.proofs.in_text.Goals as goal

pub returns-then-n-le3145728 : goal.returns-then-n-le3145728
unfolding offset_in_text
returns-then-n-le3145728 c = simp (le-leb c.args.b.0 3145728 (omega arith))

pub returns-else-n-le3145728 : goal.returns-else-n-le3145728
unfolding offset_in_text
returns-else-n-le3145728 c = simp (lt-leb c.args.b.0 3145728 (omega arith))
