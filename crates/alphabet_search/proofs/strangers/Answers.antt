-- `strangers` meets its contract. The loop's invariant: no bit is set so far exactly if the j characters from `at` on are known. Assumes nothing.
use Rattle.std.proofs.Common.{rules}
use Rattle.alphabet_search.proofs.Laws.{block_more}
use Rattle.alphabet_search.proofs.strangers.Goals as goal

pub loop-j-preserved : goal.loop-j-preserved
loop-j-preserved c =
    let a = c.args in
    block_more a.s.now a.at c.loop-j.j c.loop-j.bad _ (search rules) c.loop-j.invariant c.stranger-bad.ensures
