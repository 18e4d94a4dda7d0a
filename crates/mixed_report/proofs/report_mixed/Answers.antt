-- `mixed_report::report_mixed` meets its contract. Assumes nothing.
use mathlib.Core.Path.{refl}
use Rattle.mixed.specs.Mixed.{mixed_left}
use Rattle.mixed_report.proofs.Laws.{too_long, known-first}
use borrow.Author.Rules.{rules}
use Rattle.mixed_report.proofs.report_mixed.Goals as goal

pub returns-then-s-gt4194304 : goal.returns-then-s-gt4194304
unfolding mixed_left
returns-then-s-gt4194304 c = record { value = search too_long; out_after = refl }

pub report_by-requires : goal.report_by-requires
report_by-requires c = search (known-first, rules)
