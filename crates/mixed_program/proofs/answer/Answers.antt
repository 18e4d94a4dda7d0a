-- `mixed_program::answer` meets its contract. Assumes nothing.
use Rattle.mixed_program.proofs.Laws.{prints, never, prints-none, prints-one}
use Rattle.mixed_program.proofs.answer.Goals as goal

pub returns-then-out-lt-ROOM : goal.returns-then-out-lt-ROOM
returns-then-out-lt-ROOM c = search prints-none

pub returns-then-s-gt-LONGEST : goal.returns-then-s-gt-LONGEST
returns-then-s-gt-LONGEST c = search prints-one

pub returns-in-Ok : goal.returns-in-Ok
returns-in-Ok c = search prints

pub returns-in-Err : goal.returns-in-Err
returns-in-Err c = search never
