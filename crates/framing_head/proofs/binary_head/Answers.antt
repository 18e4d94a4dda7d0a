use Rattle.format.specs.Units.{binary_sextets}
use Rattle.framing_head.proofs.Laws.{head-join}
use Rattle.framing_head.proofs.binary_head.Goals as goal

pub returns : goal.returns
returns c =
    head-join (binary_sextets c.args.s.now) _ _ _ _ c.join.ensures c.binary_unit-a.ensures
    c.binary_unit-b.ensures c.binary_unit-c.ensures
