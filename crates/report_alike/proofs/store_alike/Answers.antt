use mathlib.Core.Path.{ap}
use mathlib.Core.Bool.{not}
use Rattle.report_alike.specs.Alike.{stored-start, stored_more}
use Rattle.report_alike.proofs.store_alike.Goals as goal

pub loop-p-init : goal.loop-p-init
loop-p-init c = stored-start c.requires.0 c.requires.4 c.requires.2

pub loop-p-preserved : goal.loop-p-preserved
loop-p-preserved c = stored_more c.loop-p.invariant c.store_if.result _ c.store_if.ensures.0 c.store_if.ensures.1 (ap not c.if-not-store_if.false) c.loop-p-test.true
