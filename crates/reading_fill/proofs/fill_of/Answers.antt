-- `reading_fill::fill_of` meets its contract. Assumes nothing.
use borrow.Author.Tests.{eq-eqb, ne_eqb}
use native.Mathlib.Omega.{arith}
use Rattle.reading_fill.specs.Texts.{fill_by}
use Rattle.reading_fill.proofs.fill_of.Goals as goal

pub returns-then-first-eq0 : goal.returns-then-first-eq0
unfolding fill_by
returns-then-first-eq0 c = (simp (eq-eqb _ _ c.if-lead-eq0.true, eq-eqb _ _ c.if-first-eq0.true), omega arith)

pub returns-else-first-eq0 : goal.returns-else-first-eq0
unfolding fill_by
returns-else-first-eq0 c = (simp (eq-eqb _ _ c.if-lead-eq0.true, ne_eqb _ _ c.if-first-eq0.false), omega arith)

pub returns : goal.returns
unfolding fill_by
returns c = (simp (ne_eqb _ _ c.if-lead-eq0.false) (omega arith), omega arith)
