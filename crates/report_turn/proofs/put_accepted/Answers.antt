use Rattle.report_general.proofs.Laws.{placed-fits, sized-fits}
use Rattle.report_turn.proofs.Laws.{run_fits, items-few, run-turn}
use borrow.Author.Rules.{rules}
use Rattle.report_turn.proofs.put_accepted.Goals as goal

pub overflow_mul-u : goal.overflow_mul-u
overflow_mul-u c = let h = placed-fits c.requires.0 in search rules

pub overflow_mul-u-2 : goal.overflow_mul-u-2
overflow_mul-u-2 c = let h = sized-fits c.requires.0 _ c.requires.1 in search rules

pub overflow_mul-result : goal.overflow_mul-result
overflow_mul-result c = let h = run_fits c.requires.0 _ _ c.requires.1 c.put_followers-r.ensures.0 in search rules

pub overflow_add-result : goal.overflow_add-result
overflow_add-result c = let h = run_fits c.requires.0 _ _ c.requires.1 c.put_followers-r.ensures.0 in search rules

pub overflow_add-result-2 : goal.overflow_add-result-2
overflow_add-result-2 c = let g = items-few _ c.put_followers-r.result c.requires.2 in let h = run_fits c.requires.0 _ _ c.requires.1 c.put_followers-r.ensures.0 in search rules

pub returns : goal.returns
returns c = λ L K g Φ. run-turn Φ _ g _ _ K (c.put_followers-r.ensures.1 c.requires.2 L) _ _ c.put_row.ensures c.put_followers-r.ensures.2 c.put_followers-r.ensures.0
