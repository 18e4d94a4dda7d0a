use Rattle.format.specs.Units.{text_sextets}
use Rattle.framing_head.proofs.Laws.{head-join}
use Rattle.framing_head.proofs.text_head.Goals as goal

pub returns : goal.returns
returns c =
    head-join (text_sextets c.args.s.now) _ _ _ _ c.join.ensures c.text_unit-a.ensures c.text_unit-b.ensures
    c.text_unit-c.ensures
