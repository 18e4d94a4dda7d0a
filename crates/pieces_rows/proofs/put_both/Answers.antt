-- `pieces_rows::put_both` meets its contract. Assumes nothing.
use mathlib.Core.Path.{refl}
use native.Mathlib.Omega.{arith}
use native.Mathlib.Nat.{mul-le-mul_left}
use Prim.Native.Nat.{◌-◌}
use Rattle.pieces_rows.proofs.Laws.{both-put}
use Rattle.pieces_rows.proofs.put_both.Goals as goal

pub overflow_mul-offset : goal.overflow_mul-offset
overflow_mul-offset c = omega (arith, mul-le-mul_left c.args.g.start c.requires.unit, c.requires.read, c.requires.begun)

pub overflow_mul-size : goal.overflow_mul-size
overflow_mul-size c = omega (arith, mul-le-mul_left (c.args.g.read - c.args.g.start) c.requires.unit, c.requires.read)

pub returns : goal.returns
returns c = let a = c.args in
    both-put a.u a.g a.i a.j a.items.now _ a.refusals.now _ _ _ _ _ refl refl c.verdict-v.ensures c.put_row.ensures c.put_item.ensures
