-- `state_of` meets its contract. Assumes nothing.
use mathlib.Core.Path.{◌∙◌}
use Rattle.exports_state.proofs.Parts.{state-of-parts}
use borrow.Author.Rules.{rules}
use Rattle.exports_state.proofs.state_of.Goals as goal

pub returns : goal.returns
returns c =
    c.put_place.ensures (search rules)
    ∙ state-of-parts c.args.w _ _ c.place.result (search rules) c.copy_from_slice.ensures.after c.place.ensures
