-- `report_last::put_last` meets its contract. Assumes nothing.
use native.Mathlib.Omega.{arith}
use Rattle.report_last.proofs.put_last.Goals as goal

pub returns-then-out-at : goal.returns-then-out-at
returns-then-out-at c = record { right = λ h. absurd (omega arith) }

pub returns-then-out-at-2 : goal.returns-then-out-at-2
returns-then-out-at-2 c = record { right = λ h. absurd (omega arith) }

pub returns : goal.returns
returns c = record { right = λ _. c.put_end.ensures }
