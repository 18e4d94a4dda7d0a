-- `walk::yielded` meets its contract. Assumes nothing.
use native.Mathlib.Omega.{arith}
use Rattle.walk.proofs.Steps.{told-item, told-refused}
use Rattle.walk.proofs.yielded.Goals as goal

pub overflow_add-result : goal.overflow_add-result
overflow_add-result c = let r = rw c.in-Unframed.is at c.requires.3 in omega (arith, c.requires.2)

pub overflow_add-at : goal.overflow_add-at
overflow_add-at c = let p = c.requires in let r = rw c.in-Item.is at p.3 in omega (arith, p.2)

pub overflow_add-at-in-Item : goal.overflow_add-at-in-Item
overflow_add-at-in-Item c = let p = c.requires in let r = rw c.in-Item.is at p.3 in omega (arith, p.2)

pub returns-in-Unframed : goal.returns-in-Unframed
returns-in-Unframed c = rw c.in-Unframed.is (told-refused _ _ _ _)

pub returns-in-Item : goal.returns-in-Item
returns-in-Item c =
    let p = c.requires in
    let r = rw c.in-Item.is at p.3 in
    rw c.in-Item.is
    (told-item _ _ _ _ _ p.1 r.2 c.is_entered-opens.ensures c.is_ruled-mark.ensures
    c.holds_indexed-indexed.ensures (c.advance-place.ensures p.0))
