-- `exports_instalments::walk_on` meets its contract. Assumes nothing.
use Rattle.exports_instalments.proofs.Lents.{behind}
use borrow.Author.Rules.{rules}
use Rattle.exports_instalments.proofs.walk_on.Goals as goal

pub returns : goal.returns
returns c =
    let a = c.args in
    let told = behind _ _ _ a.state.now c.place_of-p.ensures (c.go_on-went.ensures (search rules)) c.number_of.ensures c.place_of.ensures
    c.put_behind.ensures in record { value = told.0; answer_after = told.1.0; after = told.1.1.0; state_after = told.1.1.1 }
