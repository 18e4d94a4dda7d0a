-- `stranger_from` meets its contract. The loop's invariant: no stranger stands between `from` and i. Assumes nothing.
use native.Mathlib.Omega.{arith}
use lib.ListN.{get_or}
use borrow.Author.Tests.{lt-ltb, le-ltb}
use borrow.Author.Rules.{rules}
use Rattle.format.specs.Alphabet.{sextet_of}
use Rattle.alphabet_search.proofs.Laws.{known-here, stranger-here, none_left}
use Rattle.alphabet_search.proofs.stranger_from.Goals as goal

pub returns-then-value-gt63 : goal.returns-then-value-gt63
returns-then-value-gt63 c =
    let s = c.args.s.now in
    let v = c.value.ensures.value_2 c.sextets-values.ensures in
    let g = le-ltb (sextet_of (get_or s c.loop-i.i 0)) 64 (omega (arith, v, c.if-value-gt63.true)) in
    omega (arith, stranger-here s c.loop-i.i (search rules) g)

pub loop-i-preserved : goal.loop-i-preserved
loop-i-preserved c =
    let s = c.args.s.now in
    let v = c.value.ensures.value_2 c.sextets-values.ensures in
    let g = lt-ltb (sextet_of (get_or s c.loop-i.i 0)) 64 (omega (arith, v, c.if-value-gt63.false)) in
    omega (arith, known-here s c.loop-i.i (search rules) g)

pub returns : goal.returns
returns c = omega (arith, none_left c.args.s.now c.loop-i.i (omega arith))
