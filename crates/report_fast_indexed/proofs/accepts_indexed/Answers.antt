-- `report_fast_indexed::accepts_indexed` meets its contract. Assumes nothing.
use Rattle.report_fast_laws.specs.Laws.{going_start, going-reach, going-indexed, going-other, going_end, no-pass}
use borrow.Author.Rules.{rules}
use Rattle.report_fast_indexed.proofs.accepts_indexed.Goals as goal

pub loop-i-init : goal.loop-i-init
loop-i-init c = going_start

pub returns-then-stop-i : goal.returns-then-stop-i
returns-then-stop-i c = λ W. search no-pass

pub returns-then-n-eq0 : goal.returns-then-n-eq0
returns-then-n-eq0 c = λ W. search no-pass

pub loop-i-preserved-else-stop-i : goal.loop-i-preserved-else-stop-i
loop-i-preserved-else-stop-i c = λ W. let G = c.loop-i.invariant W in search going-indexed

pub loop-i-preserved : goal.loop-i-preserved
loop-i-preserved c = λ W. let G = c.loop-i.invariant W in let k = c.other_indexed-n.ensures.1 (going-reach G (search rules)).0 in search going-other

pub returns : goal.returns
returns c = λ W. let G = c.loop-i.invariant W in search going_end
