-- `runs_binary::valued_binary` meets its contract. Assumes nothing.
use native.Mathlib.Omega.{arith}
use Rattle.runs_binary.proofs.Laws.{binary-past, binary-other}
use borrow.Author.Rules.{rules}
use Rattle.runs_binary.proofs.valued_binary.Goals as goal

pub returns-then-s-at : goal.returns-then-s-at
returns-then-s-at c = binary-past _ _ _ c.if-s-at.true

pub returns-else-is_selector : goal.returns-else-is_selector
returns-else-is_selector c = binary-other _ _ (search rules) (λ i. omega (arith, c.shared_slice_known-2-1.given i)) _ c.is_selector.ensures c.if-is_selector.false
