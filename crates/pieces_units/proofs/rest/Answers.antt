-- `pieces_units::rest` meets its contract. Assumes nothing.
use Prim.Native.Nat.{◌+◌, ◌-◌}
use mathlib.Core.Path.{ap}
use mathlib.Core.List.{◌++◌}
use native.Mathlib.Omega.{arith}
use lib.ListN.{length, take}
use Rattle.pieces_units.proofs.Laws.{all-long, left-within, rest-made}
use borrow.Author.Rules.{rules}
use Rattle.pieces_units.proofs.rest.Goals as goal

pub returns-then-count-gt4 : goal.returns-then-count-gt4
returns-then-count-gt4 c = λ l. absurd (omega (arith, c.if-count-gt4.true))

pub overflow_sub-from : goal.overflow_sub-from
overflow_sub-from c = let a = c.args in omega (arith, c.left.ensures, left-within a.form (a.count + length a.piece.now))

pub returns : goal.returns
returns c = λ l.
    let a = c.args in
    let n = a.count + length a.piece.now in
    rest-made a.form (take a.count a.held ++ a.piece.now) n _ _ _ _ _ (all-long a.held a.count a.piece.now (search rules) l)
    (ap (λ x. n - x) c.left.ensures) c.left_at.ensures c.left_at-2.ensures c.left_at-3.ensures c.left_at-4.ensures
