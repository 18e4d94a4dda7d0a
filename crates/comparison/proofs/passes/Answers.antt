-- `passes` meets its contract. Assumes nothing.
use Rattle.comparison.proofs.Laws.{none-passing, hit-passing, miss-passing, all-passing}
use borrow.Author.Rules.{rules}
use Rattle.comparison.proofs.passes.Goals as goal
use Rattle.comparison.proofs.passes.Goals.{then-file-i, else-file-i}

pub loop-i-init : goal.loop-i-init
loop-i-init c = search none-passing

pub loop-i-preserved : goal.loop-i-preserved
loop-i-preserved c =
    elim c.if-file-i.branch [
      | then-file-i w ↦ hit-passing _ _ _ _ _ c.loop-i.invariant c.loop-i-test.true w.if-file-i.true _ w.k-is
      | else-file-i w ↦ miss-passing _ _ _ _ _ c.loop-i.invariant c.loop-i-test.true w.if-file-i.false _ w.k-is
    ]

pub returns : goal.returns
returns c = all-passing _ _ _ _ _ c.loop-i.invariant (search rules)
