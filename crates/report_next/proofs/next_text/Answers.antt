-- `report_next::next_text` meets its contract. Assumes nothing.
use Rattle.format.specs.Units.{text_sextets}
use Rattle.framing.proofs.Laws.{next-text, text-units}
use Rattle.judging.proofs.Laws.{own-text-judged}
use Rattle.report_next.proofs.Laws.{next-lawful, next-unframed, next-told}
use native.Mathlib.Omega.{arith}
use mathlib.Core.Path.{sym}
use lib.Seq.{length-take-le}
use Rattle.report_next.proofs.next_text.Goals as goal

pub overflow_mul-end : goal.overflow_mul-end
overflow_mul-end c =
    let g = next-lawful c.args.indexed c.args.first (text_sextets c.args.part.now) _ _ _ _ (next-text _ _ _ _ _ c.text_head-cs.ensures c.frame_next_head-framed.ensures) c.in-Item.is in
    omega (arith, g.room, text-units c.args.part.now)

pub slice_bounds-own_text-end : goal.slice_bounds-own_text-end
slice_bounds-own_text-end c =
    let g = next-lawful c.args.indexed c.args.first (text_sextets c.args.part.now) _ _ _ _ (next-text _ _ _ _ _ c.text_head-cs.ensures c.frame_next_head-framed.ensures) c.in-Item.is in
    sym (length-take-le _ c.args.part.now (omega (arith, g.room, text-units c.args.part.now)))

pub returns-in-Unframed : goal.returns-in-Unframed
returns-in-Unframed c = next-unframed c.args.indexed c.args.first (text_sextets c.args.part.now) _ _ (next-text _ _ _ _ _ c.text_head-cs.ensures c.frame_next_head-framed.ensures) _ _ c.in-Unframed.is

pub returns-in-Item : goal.returns-in-Item
returns-in-Item c =
    let e = next-text _ _ _ _ _ c.text_head-cs.ensures c.frame_next_head-framed.ensures in
    let g = next-lawful c.args.indexed c.args.first (text_sextets c.args.part.now) _ _ _ _ e c.in-Item.is in
    next-told c.args.indexed c.args.first _ _ _ e _ _ _ c.in-Item.is _
    (own-text-judged _ _ _ _ _ _ _ _ c.text_head-cs.ensures c.within-own.ensures c.own_text-v.ensures g.few g.shape (omega (arith, g.room, text-units c.args.part.now))) _ c.told.ensures
