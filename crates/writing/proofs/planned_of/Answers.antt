-- `writing::planned_of` meets its contract: by the kind of the code. Assumes nothing.
use Rattle.writing_code.specs.Names.{as_named}
use Rattle.writing.specs.Plan.{planned_of}
use Rattle.writing.proofs.planned_of.Goals as goal

pub returns-in-Unknown : goal.returns-in-Unknown
unfolding planned_of as_named
returns-in-Unknown c = rw (c.units_of-units.ensures, c.in-Unknown.is)

pub returns-in-Row : goal.returns-in-Row
unfolding planned_of as_named
returns-in-Row c = rw (c.units_of-units.ensures, c.in-Row.is)

pub returns-in-Variable : goal.returns-in-Variable
unfolding planned_of as_named
returns-in-Variable c = rw (c.units_of-units.ensures, c.in-Variable.is)

pub returns-in-Textual : goal.returns-in-Textual
unfolding planned_of as_named
returns-in-Textual c = rw (c.from.ensures, c.in-Textual.is)
