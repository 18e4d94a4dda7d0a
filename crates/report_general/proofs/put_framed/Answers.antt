use Rattle.report_general.proofs.Laws.{placed-fits, sized-fits, judged-turn}
use borrow.Author.Rules.{rules}
use Rattle.report_general.proofs.put_framed.Goals as goal

pub overflow_mul-u : goal.overflow_mul-u
overflow_mul-u c = let h = placed-fits c.requires.0 in search rules

pub overflow_mul-u-2 : goal.overflow_mul-u-2
overflow_mul-u-2 c = let h = sized-fits c.requires.0 _ c.requires.1 in search rules

pub returns : goal.returns
returns c = search judged-turn
