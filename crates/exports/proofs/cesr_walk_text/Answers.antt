-- `cesr_walk_text` meets its contract. Assumes nothing.
use Rattle.exports.proofs.Walks.{text-yields, text-refuses, text-ends}
use borrow.Author.Rules.{rules}
use Rattle.exports.proofs.cesr_walk_text.Goals as goal

pub returns-in-Item : goal.returns-in-Item
returns-in-Item c =
    let a = c.args in
    let told = text-yields a.stream.now a.state.now c.place_of-p.ensures (c.move_in-step.ensures (search rules)) c.in-Item.is a.item.now c.item_of-row.ensures
    (c.put_place.ensures (search rules)) in record { value = told.0; answer_after = told.1.0; item_after = told.1.1.0; state_after = told.1.1.1 }

pub returns-in-Refused : goal.returns-in-Refused
returns-in-Refused c =
    let a = c.args in
    let told = text-refuses a.stream.now a.state.now c.place_of-p.ensures (c.move_in-step.ensures (search rules)) c.in-Refused.is a.item.now in record { value = told.0; answer_after = told.1.0; item_after = told.1.1.0; state_after = told.1.1.1 }

pub returns-in-End : goal.returns-in-End
returns-in-End c =
    let a = c.args in
    let told = text-ends a.stream.now a.state.now c.place_of-p.ensures (c.move_in-step.ensures (search rules)) c.in-End.is a.item.now in record { value = told.0; answer_after = told.1.0; item_after = told.1.1.0; state_after = told.1.1.1 }
