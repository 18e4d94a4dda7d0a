-- `writing_raw::binary_item` meets its contract: of lengths that divide, 3, or the item put into its buffer. Assumes nothing.
use Rattle.writing_raw.proofs.Answers.{binary-no-room, binary-put}
use Rattle.writing_raw.proofs.binary_item.Goals as goal

pub returns-then-out-size : goal.returns-then-out-size
returns-then-out-size c =
    let a = c.args in
    let w = binary-no-room _ a.head a.raw.now a.out.now c.if-out-size.true in
    record { value = λ _. w.0; out_after = λ _. w.1 }

pub returns : goal.returns
returns c =
    let a = c.args in
    let z = c.is_sized.ensures.0 c.if-not-is_sized.false in
    let w = binary-put _ _ a.raw.now a.out.now z _ c.if-out-size.false c.put_binary.ensures in
    record { value = λ _. w.0; out_after = λ _. w.1 }
