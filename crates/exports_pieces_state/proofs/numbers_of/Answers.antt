-- `exports_pieces_state::numbers_of` meets its contract. Assumes nothing.
use mathlib.Core.Path.{ap, ◌∙◌}
use Rattle.exports_pieces_state.specs.Numbers.{pieces_in}
use Rattle.exports_pieces_state.specs.Back.{back}
use Rattle.exports_pieces_state.proofs.Laws.{numbers-made}
use Rattle.exports_pieces_state.proofs.numbers_of.Goals as goal

pub returns : goal.returns
returns c =
    let w = c.walk_numbers-w.ensures in
    let t = c.rest_of-t.ensures in
    let e = numbers-made c.args.st _ _ w.1 (c.copy_from_slice.ensures.after ∙ w.0) (c.copy_from_slice-2.ensures.after ∙ t.0) in
    (e, ap pieces_in e ∙ back c.args.st w.1 t.1)
