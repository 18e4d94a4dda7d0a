use native.Mathlib.Omega.{arith}
use Rattle.report_alike.specs.Alike.{alike-less}
use Rattle.report_alike.proofs.store_most.Goals as goal

pub returns : goal.returns
returns c = (alike-less _ _ _ _ _ _ _ _ _ _ (omega (arith, c.min-room.ensures, c.requires.2)) c.store_alike.ensures.0, c.store_alike.ensures.1)
