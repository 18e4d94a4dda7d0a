-- `exports_pieces::end` meets its contract. Assumes nothing.
use Rattle.format.specs.Units.{domain}
use Rattle.exports_pieces_state.specs.Numbers.{pieces_in}
use Rattle.exports_pieces.proofs.Laws.{end-gives}
use Rattle.exports_pieces.proofs.end.Goals as goal

pub returns : goal.returns
returns c =
    let a = c.args in
    let f = c.end-r.ensures in
    let g = c.ended.ensures in
    let told = end-gives (domain a.form) (pieces_in a.state.now) _ c.pieces_of-st.ensures a.out.now _ _ f.value f.out_after _ _ a.state.now _ g.value g.answer_after g.state_after g.state_after_2 in record { value = told.0; answer_after = told.1.0; state_after = told.1.1.0; state_after_2 = told.1.1.1.0; out_after = told.1.1.1.1 }
