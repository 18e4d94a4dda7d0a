-- `registry_reading::zero_bits` meets its contract. Assumes nothing.
use native.Mathlib.Omega.{arith}
use borrow.Author.Tests.{eq-eqb, ne_eqb}
use Rattle.registry_reading.proofs.zero_bits.Goals as goal

pub returns-then-c-eq0 : goal.returns-then-c-eq0
returns-then-c-eq0 c = simp (eq-eqb _ _ c.if-c-eq0.true) (omega arith)

pub returns : goal.returns
returns c = simp (ne_eqb _ _ c.if-c-eq0.false)
