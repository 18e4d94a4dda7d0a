use Rattle.report_fast_laws.specs.Laws.{none_passes, reach-units, by-table}
use Rattle.report_fast.proofs.passes.Goals as goal

pub returns-then-units-stop : goal.returns-then-units-stop
returns-then-units-stop c = none_passes

pub returns-then-stop-at : goal.returns-then-stop-at
returns-then-stop-at c = none_passes

pub returns-then-indexed : goal.returns-then-indexed
returns-then-indexed c = by-table _ _ c.if-indexed.true _ _ (c.accepts_indexed.ensures (search reach-units))

pub accepts-requires : goal.accepts-requires
accepts-requires c = search reach-units

pub returns : goal.returns
returns c = by-table _ _ c.if-indexed.false _ _ c.accepts.ensures
