-- `report_found::moved` meets its contract. Assumes nothing.
use native.Mathlib.Omega.{arith}
use Rattle.report_found.proofs.Laws.{moved_item, moved_on}
use Rattle.report_found.proofs.moved.Goals as goal

pub overflow_add-result : goal.overflow_add-result
overflow_add-result c = let h = c.requires.near _ _ c.in-Unframed.is in omega (arith, c.requires.few)

pub returns-in-Item : goal.returns-in-Item
returns-in-Item c = moved_item _ _ _ _ _ c.in-Item.is

pub returns-in-Unframed : goal.returns-in-Unframed
returns-in-Unframed c = moved_on _ _ _ _ c.in-Unframed.is
