-- `writing_code::units_of` meets its contract: by the kind of the code. Assumes nothing.
use Rattle.writing_code.specs.Names.{as_named}
use Rattle.format.specs.Writing.{units_of}
use Rattle.writing_code.proofs.units_of.Goals as goal

pub returns-in-Unknown : goal.returns-in-Unknown
unfolding units_of as_named
returns-in-Unknown c = rw c.in-Unknown.is

pub returns-in-Row : goal.returns-in-Row
unfolding units_of as_named
returns-in-Row c = rw (c.in-Row.is, c.from.ensures)

pub returns-in-Variable : goal.returns-in-Variable
unfolding units_of as_named
returns-in-Variable c = rw (c.in-Variable.is, c.from-in-Variable.ensures, c.count_for.ensures.0)

pub returns-in-Textual : goal.returns-in-Textual
unfolding units_of as_named
returns-in-Textual c = rw (c.in-Textual.is, c.from-in-Textual.ensures, c.text_count.ensures.0)
