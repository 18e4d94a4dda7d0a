use Rattle.report_item.proofs.Laws.{inside-item, judged, over-limit, behind-all, more-than-all}
use borrow.Author.Rules.{rules}
use Rattle.report_item.proofs.verdict.Goals as goal

pub returns-then-s-gt-LONGEST : goal.returns-then-s-gt-LONGEST
returns-then-s-gt-LONGEST c = search over-limit

pub returns-then-all-at : goal.returns-then-all-at
returns-then-all-at c = search behind-all

pub returns-then-all-at-2 : goal.returns-then-all-at-2
returns-then-all-at-2 c = search more-than-all

pub level-requires : goal.level-requires
level-requires c =
    let f = c.args.form in
    inside-item f _ _ _ _ _ c.if-all-at-2.false c.if-all-at.false c.if-s-gt-LONGEST.false (search rules) (search rules)

pub returns : goal.returns
returns c = search judged
