-- `writing_code::is_fit` meets its contract: by the kind of the code. Assumes nothing.
use Rattle.writing_code.specs.Names.{as_named}
use Rattle.format.specs.Writing.{is_fit, fits_row, fits_variable, fits_text}
use borrow.Author.Tests.{eq-eqb, ne_eqb}
use Rattle.writing_code.proofs.Names.{fits-row}
use Rattle.writing_code.proofs.is_fit.Goals as goal

pub returns-in-Unknown : goal.returns-in-Unknown
unfolding is_fit as_named
returns-in-Unknown c = rw c.in-Unknown.is

pub returns-then-tags-from : goal.returns-then-tags-from
unfolding as_named
returns-then-tags-from c = rw c.in-Row.is (fits-row _ _ _ _ _ c.from.ensures c.if-tags-from.true c.raw_size.ensures)

pub returns-else-tags-from : goal.returns-else-tags-from
unfolding is_fit fits_row as_named
returns-else-tags-from c = rw (c.in-Row.is, ← c.from.ensures, ne_eqb _ _ c.if-tags-from.false)

pub returns-then-tags-eq0 : goal.returns-then-tags-eq0
unfolding is_fit fits_variable as_named
returns-then-tags-eq0 c = rw (c.in-Variable.is, eq-eqb _ _ c.if-tags-eq0.true, ← c.raw_limit.ensures)

pub returns-else-tags-eq0 : goal.returns-else-tags-eq0
unfolding is_fit fits_variable as_named
returns-else-tags-eq0 c = rw (c.in-Variable.is, ne_eqb _ _ c.if-tags-eq0.false)

pub returns-then-tags-eq0-2 : goal.returns-then-tags-eq0-2
unfolding is_fit fits_text as_named
returns-then-tags-eq0-2 c = rw (c.in-Textual.is, eq-eqb _ _ c.if-tags-eq0-2.true) c.text_fits.ensures

pub returns-else-tags-eq0-2 : goal.returns-else-tags-eq0-2
unfolding is_fit fits_text as_named
returns-else-tags-eq0-2 c = rw (c.in-Textual.is, ne_eqb _ _ c.if-tags-eq0-2.false)
