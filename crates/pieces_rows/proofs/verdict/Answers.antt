-- `pieces_rows::verdict` meets its contract. Assumes nothing.
use native.Mathlib.Omega.{arith}
use native.Mathlib.Nat.{mul-le-mul_left}
use Prim.Native.Nat.{◌/◌, ◌-◌}
use Rattle.pieces_rows.proofs.Laws.{none-placed, some-placed}
use Rattle.pieces_rows.proofs.verdict.Goals as goal

pub returns-then-number-eq0 : goal.returns-then-number-eq0
returns-then-number-eq0 c = search none-placed

pub overflow_mul-result : goal.overflow_mul-result
overflow_mul-result c = omega (arith, mul-le-mul_left (c.args.place / 4) c.requires)

pub overflow_add-result : goal.overflow_add-result
overflow_add-result c = omega (arith, mul-le-mul_left (c.args.place / 4) c.requires)

pub returns : goal.returns
returns c = search some-placed
