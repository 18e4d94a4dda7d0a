-- `pieces_rows::put_rows` meets its contract. Assumes nothing.
use native.Mathlib.Omega.{arith}
use Rattle.pieces_rows.proofs.put_rows.Goals as goal

pub returns-then-u-gt4 : goal.returns-then-u-gt4
returns-then-u-gt4 c = λ s. absurd (omega (arith, s.unit))

pub returns-then-g-gt-FAR : goal.returns-then-g-gt-FAR
returns-then-g-gt-FAR c = λ s. absurd (omega (arith, s.read))

pub returns-then-g : goal.returns-then-g
returns-then-g c = λ s. absurd (omega (arith, s.begun))

pub returns-then-i-gt-FAR : goal.returns-then-i-gt-FAR
returns-then-i-gt-FAR c = λ s. absurd (omega (arith, s.items))

pub returns-then-j-gt-FAR : goal.returns-then-j-gt-FAR
returns-then-j-gt-FAR c = λ s. absurd (omega (arith, s.refusals))
