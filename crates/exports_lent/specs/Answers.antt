-- The state that C lent, behind an instalment. Assumes nothing.
use Rattle.std.specs.Prelude.{ℕ, List, eqb}
use Rattle.base.specs.Pick.{pick}
use Rattle.instalments.specs.declared.Walked.{Walked}
use Rattle.exports_values.specs.Lent.{state_of}

-- with no item the numbers stay as they were, also those that are no state's
unfoldable pub state_behind : Walked ℕ → List ℕ → List ℕ
state_behind r before = pick (eqb r.items 0) before (state_of r.next)
