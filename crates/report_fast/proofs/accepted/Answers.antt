use native.Mathlib.Omega.{arith}
use Rattle.report_fast_laws.specs.Laws.{top-reach, top-good}
use Rattle.report_fast.proofs.accepted.Goals as goal

pub returns-then-end-at : goal.returns-then-end-at
returns-then-end-at c = (omega arith, λ h l K p. absurd (omega arith))

pub accepted_within-requires : goal.accepted_within-requires
accepted_within-requires c = top-reach c.args.form c.args.tables.now c.args.s.now _ _ _ _ c.min-end.ensures c.units.ensures c.if-end-at.false

pub returns : goal.returns
returns c = top-good c.args.form c.args.tables.now c.args.s.now _ _ _ _ c.min-end.ensures c.units.ensures c.if-end-at.false _ c.accepted_within.ensures
