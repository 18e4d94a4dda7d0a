-- `report_fast_told::told_indexed` meets its contract. Assumes nothing.
use native.Mathlib.Nat.{pos_of_ne-zero}
use Rattle.report_fast_laws.specs.Laws.{going_start, going-indexed, going_end, no-pass}
use borrow.Author.Rules.{rules}
use Rattle.report_fast_told.proofs.told_indexed.Goals as goal

pub loop-i-init : goal.loop-i-init
loop-i-init c = λ W l. going_start W

pub returns-then-told-eq0 : goal.returns-then-told-eq0
returns-then-told-eq0 c = λ W l. search no-pass

pub returns-then-stop-i : goal.returns-then-stop-i
returns-then-stop-i c = λ W l. search no-pass

pub loop-i-smaller : goal.loop-i-smaller
loop-i-smaller c = search (rules, pos_of_ne-zero)

pub loop-i-preserved : goal.loop-i-preserved
loop-i-preserved c = λ W l. let G = c.loop-i.invariant W l in search (going-indexed, pos_of_ne-zero)

pub returns : goal.returns
returns c = λ W l. let G = c.loop-i.invariant W l in search going_end
