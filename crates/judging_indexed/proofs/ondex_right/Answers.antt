-- `judging_indexed::ondex_right` meets its contract. Assumes nothing.
use borrow.Author.Tests.{eq-eqb, ne_eqb}
use Rattle.format.specs.Values.{ondex_of}
use Rattle.format.specs.Judging.{ondex_right}
use Rattle.judging_indexed.proofs.ondex_right.Goals as goal

pub returns-then-c-eq0 : goal.returns-then-c-eq0
unfolding ondex_right
returns-then-c-eq0 c = simp (eq-eqb _ _ c.if-c-eq0.true)

pub returns : goal.returns
unfolding ondex_right ondex_of
returns c =
    simp (ne_eqb _ _ c.if-c-eq0.false)
    (rw (c.from.ensures, c.from-2.ensures, c.from-3.ensures) at c.digits_zero.ensures)
