-- `report_next::next_binary` meets its contract. Assumes nothing.
use Rattle.format.specs.Units.{binary_sextets}
use Rattle.framing.proofs.Laws.{next-binary, binary-units}
use Rattle.judging.proofs.Laws.{own-binary-judged}
use Rattle.report_next.proofs.Laws.{next-lawful, next-unframed, next-told}
use native.Mathlib.Omega.{arith}
use Rattle.report_next.proofs.next_binary.Goals as goal

pub returns-in-Unframed : goal.returns-in-Unframed
returns-in-Unframed c = next-unframed c.args.indexed c.args.first (binary_sextets c.args.part.now) _ _ (next-binary _ _ _ _ _ c.binary_head-cs.ensures c.frame_next_head-framed.ensures) _ _ c.in-Unframed.is

pub returns-in-Item : goal.returns-in-Item
returns-in-Item c =
    let e = next-binary _ _ _ _ _ c.binary_head-cs.ensures c.frame_next_head-framed.ensures in
    let g = next-lawful c.args.indexed c.args.first (binary_sextets c.args.part.now) _ _ _ _ e c.in-Item.is in
    next-told c.args.indexed c.args.first _ _ _ e _ _ _ c.in-Item.is _
    (own-binary-judged _ _ _ _ _ _ _ _ c.binary_head-cs.ensures c.within-own.ensures c.own_binary-v.ensures g.few g.shape (omega (arith, g.room, binary-units c.args.part.now))) _ c.told.ensures
