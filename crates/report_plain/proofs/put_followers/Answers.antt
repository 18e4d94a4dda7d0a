use native.Mathlib.Omega.{arith}
use Rattle.runs.specs.Runs.{run_none}
use Rattle.report_rows.specs.Stores.{run-start}
use Rattle.report_plain.proofs.Laws.{within, known-run}
use borrow.Author.Rules.{rules}
use Rattle.report_plain.proofs.put_followers.Goals as goal

pub returns-then-end-at : goal.returns-then-end-at
returns-then-end-at c = (omega arith, λ p l. run_none _ _ _ _ p, run-start _ _ _ _)

pub returns-then-end-at-2 : goal.returns-then-end-at-2
returns-then-end-at-2 c = (omega arith, λ p l. run_none _ _ _ _ p, run-start _ _ _ _)

pub put_within-requires : goal.put_within-requires
put_within-requires c = search (within, rules)

pub returns : goal.returns
returns c = search (within, known-run, rules)
