-- `framing_first::known_first` meets its contract, by the laws of a unit that begins at sextet 0. Assumes nothing.
use Rattle.framing_first.proofs.Laws.{bad0, bad1, bad2, bad3, good}
use Rattle.framing_first.proofs.known_first.Goals as goal

pub returns-then-cs-ge64 : goal.returns-then-cs-ge64
returns-then-cs-ge64 c = bad0 _ 0 _ _ c.if-cs-ge64.true c.strange.ensures

pub returns-then-cs-ge64-2 : goal.returns-then-cs-ge64-2
returns-then-cs-ge64-2 c = bad1 _ 0 _ _ c.if-cs-ge64.false c.if-cs-ge64-2.true c.strange-then-cs-ge64-2.ensures

pub returns-then-cs-ge64-3 : goal.returns-then-cs-ge64-3
returns-then-cs-ge64-3 c = bad2 _ 0 _ _ c.if-cs-ge64.false c.if-cs-ge64-2.false c.if-cs-ge64-3.true c.strange-then-cs-ge64-3.ensures

pub returns-then-cs-ge64-4 : goal.returns-then-cs-ge64-4
returns-then-cs-ge64-4 c = bad3 _ 0 _ _ c.if-cs-ge64.false c.if-cs-ge64-2.false c.if-cs-ge64-3.false c.if-cs-ge64-4.true c.strange-then-cs-ge64-4.ensures

pub returns : goal.returns
returns c = good _ 0 _ c.if-cs-ge64.false c.if-cs-ge64-2.false c.if-cs-ge64-3.false c.if-cs-ge64-4.false
