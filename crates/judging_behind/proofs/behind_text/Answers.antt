use mathlib.Core.Path.{◌∙◌}
use Prim.Native.Nat.{◌*◌}
use Rattle.judging_behind.proofs.Laws.{first-to-end, behind-bad, behind-clean, behind-past}
use borrow.Author.Rules.{rules}
use Rattle.judging_behind.proofs.behind_text.Goals as goal

pub returns-then-bad-item : goal.returns-then-bad-item
returns-then-bad-item c =
    let a = c.args in
    rw c.number_at-number.ensures
    (behind-bad a.item.now a.h _ (c.first_stranger-bad.ensures ∙ first-to-end a.item.now (4 * a.h)) (search rules))

pub returns-else-bad-item : goal.returns-else-bad-item
returns-else-bad-item c = let a = c.args in behind-clean a.item.now a.h _ (c.first_stranger-bad.ensures ∙ first-to-end a.item.now (4 * a.h)) (search rules)

pub returns-else-h-item : goal.returns-else-h-item
returns-else-h-item c = behind-past c.args.item.now c.args.h (search rules)
