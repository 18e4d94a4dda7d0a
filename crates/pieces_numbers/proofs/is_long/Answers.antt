-- `pieces_numbers::is_long` meets its contract. Assumes nothing.
use Rattle.pieces_numbers.proofs.Laws.{long-none, long-unknown, long-units}
use borrow.Author.Tests.{not-true, not-false}
use Rattle.pieces_numbers.proofs.is_long.Goals as goal

pub returns-then-room-le1 : goal.returns-then-room-le1
returns-then-room-le1 c = search long-none

pub returns-then-not-all_known : goal.returns-then-not-all_known
returns-then-not-all_known c = search (long-unknown, not-true)

pub returns : goal.returns
returns c = search (long-units, not-false)
