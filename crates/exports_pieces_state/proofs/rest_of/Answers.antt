-- `exports_pieces_state::rest_of` meets its contract. Assumes nothing.
use borrow.Author.Rules.{rules}
use Rattle.exports_pieces_state.specs.Numbers.{rest_of}
use Rattle.exports_pieces_state.proofs.rest_of.Goals as goal

pub returns : goal.returns
unfolding rest_of
returns c =
    (search rules, record { header = c.four-h.ensures.1; kept = c.four-k.ensures.1; lead = search rules; number = search rules })
