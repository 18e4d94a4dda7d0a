-- `section_at` meets its contract. Assumes nothing.
use native.Mathlib.Omega.{arith}
use Rattle.expectation.proofs.Laws.{size_few, no-count, too_short, section-is}
use borrow.Author.Rules.{rules}
use Rattle.expectation.proofs.section_at.Goals as goal

pub returns-then-left-lt4 : goal.returns-then-left-lt4
returns-then-left-lt4 c = search no-count

pub overflow_mul-size : goal.overflow_mul-size
overflow_mul-size c = omega (arith, size_few c.args.width c.count_at-count.result (search rules) c.count_at-count.ensures.1)

pub returns-then-left-size : goal.returns-then-left-size
returns-then-left-size c = search too_short

pub returns : goal.returns
returns c = search section-is
