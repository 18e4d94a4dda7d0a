-- `judging_indexed::digits_zero` meets its contract. The digits up to `i` are zero. Assumes nothing.
use mathlib.Core.Path.{◌∙◌}
use borrow.Author.Rules.{rules}
use Rattle.judging_indexed.proofs.Digits.{some-digit, no_digit}
use Rattle.judging_indexed.proofs.digits_zero.Goals as goal

pub returns-then-sextet_at-ne0 : goal.returns-then-sextet_at-ne0
returns-then-sextet_at-ne0 c =
    let a = c.args in
    some-digit a.cs a.from a.count c.loop-i.i (search rules) (λ e. c.if-sextet_at-ne0.true (c.sextet_at.ensures ∙ e))

pub returns : goal.returns
returns c =
    let a = c.args in
    no_digit a.cs a.from a.count c.loop-i.i (search rules) c.loop-i.invariant
