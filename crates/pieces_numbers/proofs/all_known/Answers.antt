-- `pieces_numbers::all_known` meets its contract. Assumes nothing.
use borrow.Author.Tests.{lt-ltb, le-ltb}
use Rattle.pieces.specs.Headers.{all_known}
use Rattle.pieces_numbers.proofs.all_known.Goals as goal

pub returns-then-q-ge64 : goal.returns-then-q-ge64
unfolding all_known
returns-then-q-ge64 c = rw (le-ltb _ _ c.if-q-ge64.true)

pub returns-then-q-ge64-2 : goal.returns-then-q-ge64-2
unfolding all_known
returns-then-q-ge64-2 c = rw (lt-ltb _ _ c.if-q-ge64.false, le-ltb _ _ c.if-q-ge64-2.true)

pub returns-then-q-ge64-3 : goal.returns-then-q-ge64-3
unfolding all_known
returns-then-q-ge64-3 c = rw (lt-ltb _ _ c.if-q-ge64.false, lt-ltb _ _ c.if-q-ge64-2.false, le-ltb _ _ c.if-q-ge64-3.true)

pub returns : goal.returns
unfolding all_known
returns c = rw (lt-ltb _ _ c.if-q-ge64.false, lt-ltb _ _ c.if-q-ge64-2.false, lt-ltb _ _ c.if-q-ge64-3.false)
