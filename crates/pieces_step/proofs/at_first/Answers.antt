-- `pieces_step::at_first` meets its contract. Assumes nothing.
use Rattle.pieces_step.proofs.Laws.{first-stored, first-headed, near_of}
use borrow.Author.Rules.{rules}
use Rattle.pieces_step.proofs.at_first.Goals as goal

pub returns-then-is_long : goal.returns-then-is_long
returns-then-is_long c = λ b. search (first-stored, c.room_of-room.ensures, c.stored.ensures)

pub returns : goal.returns
returns c = λ b.
    let e = c.framed_by-framed.ensures c.args.q c.one_head-cs.ensures in
    let k = c.headed.ensures (near_of c.args.slots.now c.args.g c.args.q _ c.requires b e) in
    search (first-headed, c.room_of-room.ensures, rules)
