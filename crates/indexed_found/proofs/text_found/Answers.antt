-- `indexed_found::text_found` meets its contract: 3, or the item told and its raw value copied. Assumes nothing.
use mathlib.Core.Path.{refl, sym}
use native.Mathlib.Omega.{arith}
use lib.Seq.{length-take-le}
use Rattle.format.specs.Indexed.{indexed_left}
use Rattle.indexed_found.specs.Begun.{Begun}
use Rattle.indexed_found.proofs.Answers.{item_room, item-told, no_room, some-room, raw-copied}
use Rattle.indexed_found.proofs.text_found.Goals as goal

pub returns-then-part-size : goal.returns-then-part-size
returns-then-part-size c =
    let no : Begun c.args.part.now c.args.kind c.args.head c.args.size → ⊥ = λ b. omega (arith, item_room c.args.part.now _ _ _ b, c.if-part-size.true) in
    record { value = λ b. absurd (no b); out_after = λ b. absurd (no b) }

pub returns-then-out-p : goal.returns-then-out-p
unfolding indexed_left
returns-then-out-p c =
    let told = item-told c.args.part.now _ _ _ _ _ c.text_head-cs.ensures c.within-own.ensures _ c.item_of-p.ensures in
    record { value = λ b. no_room c.args.part.now _ _ _ b _ (told b) c.args.out.now c.if-out-p.true; out_after = λ _. refl }

pub slice_bounds-copy_raw-end : goal.slice_bounds-copy_raw-end
slice_bounds-copy_raw-end c = sym (length-take-le _ _ (omega arith))

pub returns : goal.returns
returns c =
    let told = item-told c.args.part.now _ _ _ _ _ c.text_head-cs.ensures c.within-own.ensures _ c.item_of-p.ensures in
    record {
      value = λ b. some-room c.args.part.now _ _ _ b _ (told b) c.args.out.now c.if-out-p.false;
      out_after = λ b. raw-copied c.args.part.now _ _ _ b _ (told b) c.args.out.now _ c.if-out-p.false c.copy_raw.ensures;
    }
