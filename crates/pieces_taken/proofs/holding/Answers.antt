-- `pieces_taken::holding` meets its contract. Assumes nothing.
use mathlib.Core.Path.{◌≡◌}
use lib.ListN.{length}
use Rattle.pieces_taken.proofs.Laws.{held-made}
use borrow.Author.Rules.{rules}
use Rattle.pieces_taken.proofs.holding.Goals as goal

pub returns : goal.returns
returns c =
    let a = c.args in
    let l : length a.st.held ≡ 4 = search rules in
    (held-made a.form a.st a.progress a.piece.now _ _ (c.rest-rest.ensures (search rules)) c.left.ensures, l)
