use native.Mathlib.Omega.{arith}
use Rattle.report_sizes.proofs.Alike.{none-sized, letter-follows}
use borrow.Author.Rules.{rules}
use Rattle.report_sizes.proofs.of_letter.Goals as goal

pub returns-then-units-at : goal.returns-then-units-at
returns-then-units-at c = search (none-sized, rules)

pub returns-then-a-gt51 : goal.returns-then-a-gt51
returns-then-a-gt51 c = search (none-sized, rules)

pub returns-then-letter_row-size : goal.returns-then-letter_row-size
returns-then-letter_row-size c = search (none-sized, rules)

pub returns : goal.returns
returns c = (c.followers.ensures.few, letter-follows c.args.form c.args.tables.now c.args.s.now _ _ _ _ _ _ (λ i. omega (arith, c.shared_slice_known-1.given i)) c.letter-a.ensures c.if-a-gt51.false c.letter_row.ensures.0 c.if-letter_row-size.false c.followers.ensures.run)
