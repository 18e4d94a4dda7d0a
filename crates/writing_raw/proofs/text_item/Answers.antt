-- `writing_raw::text_item` meets its contract: of lengths that divide, 3, or the item put into its buffer. Assumes nothing.
use Rattle.writing_raw.proofs.Answers.{text-no-room, text-put}
use Rattle.writing_raw.proofs.text_item.Goals as goal

pub returns-then-out-chars : goal.returns-then-out-chars
returns-then-out-chars c =
    let a = c.args in
    let w = text-no-room _ a.head a.raw.now a.out.now c.if-out-chars.true in
    record { value = λ _. w.0; out_after = λ _. w.1 }

pub returns : goal.returns
returns c =
    let a = c.args in
    let z = c.is_sized.ensures.0 c.if-not-is_sized.false in
    let w = text-put _ _ a.raw.now a.out.now z _ c.if-out-chars.false c.put_text.ensures in
    record { value = λ _. w.0; out_after = λ _. w.1 }
