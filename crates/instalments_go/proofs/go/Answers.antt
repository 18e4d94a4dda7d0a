-- `instalments_go::go` meets its contract. The invariant, of slots enough and a state that fits: the items counted, and what the rest of
-- the budget gives from the present state, are what the budget gives from the first; and the present state fits. Assumes nothing.
use Rattle.instalments_go.proofs.Going.{begin, spent_all, refused, ended, again}
use native.Mathlib.Omega.{arith}
use borrow.Author.Rules.{rules}
use Rattle.instalments_go.proofs.go.Goals as goal

pub loop-items-init : goal.loop-items-init
loop-items-init c = begin _ _ _ _ _

pub returns-in-Refused : goal.returns-in-Refused
returns-in-Refused c room fit =
    let g = c.loop-items.invariant room fit in
    refused _ _ _ _ _ _ _ _ g (search rules) (c.move_fit-m.ensures g.room g.fits) c.in-Refused.is

pub returns-in-End : goal.returns-in-End
returns-in-End c room fit =
    let g = c.loop-items.invariant room fit in
    ended _ _ _ _ _ _ _ _ g (search rules) (c.move_fit-m.ensures g.room g.fits) c.in-End.is

pub loop-items-preserved : goal.loop-items-preserved
loop-items-preserved c room fit =
    let g = c.loop-items.invariant room fit in
    again _ _ _ _ _ _ _ _ g (search rules) (c.move_fit-m.ensures g.room g.fits) (rw c.in-Item.is tt) (search rules)

pub returns : goal.returns
returns c room fit =
    let g = c.loop-items.invariant room fit in
    spent_all _ _ _ _ _ _ _ _ g (omega (arith, g.few))
