-- `exports_pieces::feed` meets its contract. Assumes nothing.
use Rattle.format.specs.Units.{domain}
use Rattle.exports_pieces_state.specs.Numbers.{pieces_in}
use Rattle.exports_pieces.proofs.Laws.{feed-gives}
use Rattle.exports_pieces.proofs.feed.Goals as goal

pub returns : goal.returns
returns c =
    let a = c.args in
    let f = c.feed-r.ensures in
    let g = c.fed.ensures in
    let told = feed-gives (domain a.form) (pieces_in a.state.now) _ c.pieces_of-st.ensures a.piece.now a.items.now _ a.refusals.now _ _ f.value f.after f.refusals_after _ _
    a.state.now _ g.value g.given_after g.state_after g.state_after_2 in record { value = told.0; given_after = told.1.0; state_after = told.1.1.0; state_after_2 = told.1.1.1.0; after = told.1.1.1.1.0; refusals_after = told.1.1.1.1.1 }
