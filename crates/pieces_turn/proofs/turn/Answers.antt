-- `pieces_turn::turn` meets its contract. Assumes nothing.
use native.Mathlib.Omega.{arith}
use mathlib.Core.Path.{sym, ◌∙◌}
use borrow.Author.Tests.{not-true, not-false}
use Rattle.pieces_turn.proofs.Laws.{turn-quiet, turn-whole, next_small, next-items}
use Rattle.pieces_turn.proofs.turn.Goals as goal

pub returns-then-not-is_whole : goal.returns-then-not-is_whole
returns-then-not-is_whole c = λ k.
    let a = c.args in
    turn-quiet a.slots.now _ a.g a.q _ (c.step-next.ensures k.ready k.bounded) a.u a.items.now a.refusals.now a.i a.j
    (sym c.is_whole.ensures ∙ c.if-not-is_whole.true)

pub returns-then-i-gt-FAR : goal.returns-then-i-gt-FAR
returns-then-i-gt-FAR c = λ k. absurd (omega (arith, k.items))

pub returns-then-j-gt-FAR : goal.returns-then-j-gt-FAR
returns-then-j-gt-FAR c = λ k. absurd (omega (arith, k.refusals))

pub returns : goal.returns
returns c = λ k.
    let a = c.args in
    let b = c.step-next.ensures k.ready k.bounded in
    turn-whole a.slots.now _ a.g a.q _ b a.u a.items.now _ a.refusals.now _ a.i a.j _ _ _
    (sym c.is_whole.ensures ∙ c.if-not-is_whole.false)
    (c.put_rows-r.ensures (next_small a.slots.now _ a.g a.q _ b a.u a.i a.j k))
    (c.told-stage.ensures (next-items a.slots.now _ a.g a.q _ b a.u a.i a.j k)) c.with_few.ensures
