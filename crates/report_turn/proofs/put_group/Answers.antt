use Rattle.report_general.proofs.Laws.{placed-fits, sized-fits, turned-to}
use Rattle.report_turn.proofs.Laws.{not-long, good_turn}
use borrow.Author.Rules.{rules}
use Rattle.report_turn.proofs.put_group.Goals as goal

pub overflow_mul-u : goal.overflow_mul-u
overflow_mul-u c = let h = placed-fits c.requires.0 in search rules

pub overflow_mul-u-then-group_accepted : goal.overflow_mul-u-then-group_accepted
overflow_mul-u-then-group_accepted c = let h = sized-fits c.requires.0 _ c.requires.1 in search rules

pub returns-then-group_accepted : goal.returns-then-group_accepted
returns-then-group_accepted c = λ L K e Φ. good_turn Φ _ (c.group_accepted.ensures (not-long Φ) L K e c.if-group_accepted.true) _ c.put_row.ensures

pub returns : goal.returns
returns c = λ L K e. search turned-to
