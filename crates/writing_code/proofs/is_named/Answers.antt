-- `writing_code::is_named` meets its contract: by the kind of the code. Assumes nothing.
use Rattle.format.specs.Writing.{is_named}
use Rattle.writing_code.specs.Names.{as_named}
use Rattle.writing_code.proofs.is_named.Goals as goal

pub returns-in-Unknown : goal.returns-in-Unknown
unfolding is_named as_named
returns-in-Unknown c = rw c.in-Unknown.is

pub returns-in-Row : goal.returns-in-Row
unfolding is_named as_named
returns-in-Row c = rw c.in-Row.is

pub returns-in-Variable : goal.returns-in-Variable
unfolding is_named as_named
returns-in-Variable c = rw c.in-Variable.is

pub returns-in-Textual : goal.returns-in-Textual
unfolding is_named as_named
returns-in-Textual c = rw c.in-Textual.is
