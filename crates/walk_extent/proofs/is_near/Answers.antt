-- `walk_extent::is_near` meets its contract. Assumes nothing.
use Rattle.walk_extent.proofs.Near.{near-over, near-many, near-behind, near_last}
use borrow.Author.Rules.{rules}
use Rattle.walk_extent.proofs.is_near.Goals as goal

pub returns-then-e : goal.returns-then-e
returns-then-e c = λ l. near-over _ _ c.if-e.true

pub returns-then-p-gt-MAX_DEPTH : goal.returns-then-p-gt-MAX_DEPTH
returns-then-p-gt-MAX_DEPTH c = λ l. near-many _ _ c.if-e.false (search rules)

pub returns-then-stop-p : goal.returns-then-stop-p
returns-then-stop-p c = λ l. near-behind _ _ c.if-e.false (search rules) (c.stop-stop.ensures l) (search rules)

pub returns : goal.returns
returns c =
    λ l. near_last _ _ c.if-e.false (search rules) (c.stop-stop.ensures l) (search rules)
