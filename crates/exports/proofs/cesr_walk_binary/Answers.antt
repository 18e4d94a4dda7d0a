-- `cesr_walk_binary` meets its contract. Assumes nothing.
use Rattle.exports.proofs.Walks.{binary-yields, binary-refuses, binary-ends}
use borrow.Author.Rules.{rules}
use Rattle.exports.proofs.cesr_walk_binary.Goals as goal

pub returns-in-Item : goal.returns-in-Item
returns-in-Item c =
    let a = c.args in
    let told = binary-yields a.stream.now a.state.now c.place_of-p.ensures (c.move_in-step.ensures (search rules)) c.in-Item.is a.item.now c.item_of-row.ensures
    (c.put_place.ensures (search rules)) in record { value = told.0; answer_after = told.1.0; item_after = told.1.1.0; state_after = told.1.1.1 }

pub returns-in-Refused : goal.returns-in-Refused
returns-in-Refused c =
    let a = c.args in
    let told = binary-refuses a.stream.now a.state.now c.place_of-p.ensures (c.move_in-step.ensures (search rules)) c.in-Refused.is a.item.now in record { value = told.0; answer_after = told.1.0; item_after = told.1.1.0; state_after = told.1.1.1 }

pub returns-in-End : goal.returns-in-End
returns-in-End c =
    let a = c.args in
    let told = binary-ends a.stream.now a.state.now c.place_of-p.ensures (c.move_in-step.ensures (search rules)) c.in-End.is a.item.now in record { value = told.0; answer_after = told.1.0; item_after = told.1.1.0; state_after = told.1.1.1 }
