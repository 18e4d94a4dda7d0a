-- `report_fast_indexed::other_indexed` meets its contract. Assumes nothing.
use native.Mathlib.Omega.{arith}
use Rattle.report_fast_laws.specs.Laws.{nothing, own-few, by-own}
use Rattle.report_fast_indexed.proofs.other_indexed.Goals as goal

pub returns-then-is_entered : goal.returns-then-is_entered
returns-then-is_entered c = (omega arith, λ W tables. search nothing)

pub returns-in-Unframed : goal.returns-in-Unframed
returns-in-Unframed c = (omega arith, λ W tables. search nothing)

pub returns-else-is_entered : goal.returns-else-is_entered
returns-else-is_entered c = (search own-few, λ W tables. search by-own)
