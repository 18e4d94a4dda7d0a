-- `walk_state::advance` meets its contract. Assumes nothing.
use Rattle.walk_state.proofs.Lent.{advance-into, advance-past}
use Rattle.walk_state.proofs.advance.Goals as goal

pub returns-then-opens : goal.returns-then-opens
returns-then-opens c = λ l.
    let a = c.args in
    rw c.if-opens.true (advance-into a.slots.now a.p a.at a.end a.mark a.indexed c.enter-inside.ensures c.finish.ensures)

pub returns : goal.returns
returns c = λ l.
    let a = c.args in
    rw c.if-opens.false (advance-past a.slots.now a.p a.at a.end a.mark a.indexed c.finish-2.ensures)
