-- `first_stranger` meets its contract. The loop's invariant: no stranger stands before i. Assumes nothing.
use mathlib.Core.Path.{sym, ◌∙◌}
use native.Mathlib.Omega.{arith}
use borrow.Author.Tests.{eq-eqb}
use Rattle.alphabet_search.proofs.Laws.{clean-block}
use borrow.Author.Rules.{rules}
use Rattle.alphabet_search.proofs.first_stranger.Goals as goal

pub loop-i-preserved : goal.loop-i-preserved
loop-i-preserved c =
    let s = c.args.s.now in (
      search rules,
      omega (arith, clean-block s c.loop-i.i 64 (sym c.strangers.ensures ∙ eq-eqb _ 0 c.if-strangers-ne0.false)),
    )

pub returns : goal.returns
returns c = cc
