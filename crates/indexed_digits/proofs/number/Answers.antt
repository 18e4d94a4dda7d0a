-- `indexed_digits::number` meets its contract, by how many digits there are. Assumes nothing.
use mathlib.Core.Path.{◌≡◌}
use native.Mathlib.Omega.{arith}
use Rattle.indexed_digits.proofs.Digits.{one-digit, two_digits, three-digits}
use borrow.Author.Rules.{rules}
use Rattle.indexed_digits.proofs.number.Goals as goal

pub returns-then-count-eq1 : goal.returns-then-count-eq1
returns-then-count-eq1 c = λ _.
    rw (c.if-count-eq1.true, c.from-a.ensures) (one-digit c.args.cs c.args.from (search rules))

pub returns-then-count-eq2 : goal.returns-then-count-eq2
returns-then-count-eq2 c = λ _.
    rw (c.if-count-eq2.true, c.from-a.ensures, c.from-b.ensures) (two_digits c.args.cs c.args.from (search rules))

pub returns : goal.returns
returns c = λ h.
    let all : c.args.count ≡ 3 = omega arith in
    rw (all, c.from-a.ensures, c.from-b.ensures, c.from-d.ensures) (three-digits c.args.cs c.args.from (search rules))
