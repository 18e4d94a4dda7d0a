-- `fixed_start` meets its contract. Assumes nothing.
use native.Mathlib.Omega.{arith}
use borrow.Author.Tests.{eq-eqb, ne_eqb}
use Rattle.format.specs.Values.{raw_start}
use Rattle.laws.specs.Offsets.{in-binary-is}
use Rattle.reading_start.proofs.fixed_start.Goals as goal

pub returns-then-c-eq0 : goal.returns-then-c-eq0
unfolding raw_start
returns-then-c-eq0 c = (simp (eq-eqb _ _ c.if-c-eq0.true) (omega arith), omega arith)

pub returns-else-c-eq0 : goal.returns-else-c-eq0
unfolding raw_start
returns-else-c-eq0 c =
    let b = in-binary-is _ c.in_binary.ensures in
    (simp (ne_eqb _ _ c.if-c-eq0.false) (omega (arith, b)), omega (arith, b))
