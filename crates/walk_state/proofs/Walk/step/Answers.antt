-- `walk_state::Walk::step` meets its contract. Assumes nothing.
use mathlib.Core.Path.{◌≡◌, ap, ◌∙◌}
use native.Mathlib.Omega.{arith}
use lib.ListN.{length}
use Rattle.format.specs.Judging.{max_depth}
use Rattle.walk_state.specs.declared.Walk.{Walk}
use Rattle.walk_state.specs.Moving.{step_over}
use Rattle.walk_state.proofs.Lent.{own-moved}
use borrow.Author.Rules.{rules}
use Rattle.walk_state.proofs.Walk.step.Goals as goal

pub returns : goal.returns
returns c =
    let a = c.args in
    let l : length a.self.ends ≡ max_depth = search rules in
    own-moved (search rules) (c.advance-p.ensures (omega arith)) ∙ ap (λ (w : Walk). step_over w a.at a.end a.opens a.mark a.indexed) c.place.ensures
