-- `runs_binary::unit` meets its contract. Assumes nothing.
use native.Mathlib.Omega.{arith}
use Rattle.runs_binary.proofs.Laws.{unit-bytes, binary-four}
use borrow.Author.Rules.{rules}
use Rattle.runs_binary.proofs.unit.Goals as goal

pub returns : goal.returns
returns c f =
    binary-four f _ _ (search rules) (unit-bytes _ _ (λ i. omega (arith, c.shared_slice_known-4-1.given i))) _ _ c.second.ensures c.third.ensures
