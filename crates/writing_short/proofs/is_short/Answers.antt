-- `writing_short::is_short` meets its contract: by the kind of the code. Assumes nothing.
use Rattle.writing_code.specs.Names.{as_named}
use Rattle.format.specs.Writing.{is_short}
use Rattle.writing_short.proofs.is_short.Goals as goal

pub returns-in-Unknown : goal.returns-in-Unknown
unfolding is_short as_named
returns-in-Unknown c = rw c.in-Unknown.is

pub returns-in-Row : goal.returns-in-Row
unfolding is_short as_named
returns-in-Row c = rw c.in-Row.is

pub returns-in-Variable : goal.returns-in-Variable
unfolding is_short as_named
returns-in-Variable c =
    rw c.in-Variable.is
    (rw (c.from.ensures, c.count_for-triplets.ensures.0) at c.is_shortest.ensures)

pub returns-in-Textual : goal.returns-in-Textual
unfolding is_short as_named
returns-in-Textual c =
    rw c.in-Textual.is
    (rw (c.from-in-Textual.ensures, c.text_count-quadlets.ensures.0) at c.is_shortest-in-Textual.ensures)
