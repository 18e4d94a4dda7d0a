use mathlib.Core.Path.{sym}
use borrow.Author.Tests.{eq-eqb, ne_eqb}
use Rattle.format.specs.Registry.{is_text}
use Rattle.judging_fill.specs.Fill.{text_filled}
use Rattle.judging_fill.proofs.Laws.{unfilled-past}
use borrow.Author.Rules.{rules}
use Rattle.judging_fill.proofs.text_filled.Goals as goal

pub returns-then-letter-ne0 : goal.returns-then-letter-ne0
unfolding text_filled is_text
returns-then-letter-ne0 c = simp (ne_eqb _ _ c.if-letter-ne0.true)

pub returns-then-count-eq0 : goal.returns-then-count-eq0
unfolding text_filled is_text
returns-then-count-eq0 c = simp (eq-eqb _ _ c.if-letter-ne0.false, eq-eqb _ _ c.if-count-eq0.true)

pub returns-then-h-gt2 : goal.returns-then-h-gt2
unfolding text_filled is_text
returns-then-h-gt2 c = simp (eq-eqb _ _ c.if-letter-ne0.false, ne_eqb _ _ c.if-count-eq0.false) (sym (unfilled-past _ c.args.cs _ (search rules) c.if-h-gt2.true))

pub returns : goal.returns
unfolding text_filled is_text
returns c = simp (eq-eqb _ _ c.if-letter-ne0.false, ne_eqb _ _ c.if-count-eq0.false) c.filled_right.ensures
