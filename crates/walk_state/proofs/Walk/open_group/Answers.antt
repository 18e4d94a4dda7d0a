-- `walk_state::Walk::open_group` meets its contract. Assumes nothing.
use mathlib.Core.Path.{◌≡◌, ap, ◌∙◌}
use native.Mathlib.Omega.{arith}
use lib.ListN.{length}
use Rattle.format.specs.Judging.{max_depth}
use Rattle.walk_state.specs.declared.Walk.{Walk}
use Rattle.walk_state.specs.Moving.{entered}
use Rattle.walk_state.proofs.Lent.{own-moved}
use borrow.Author.Rules.{rules}
use Rattle.walk_state.proofs.Walk.open_group.Goals as goal

pub enter-p-requires : goal.enter-p-requires
enter-p-requires c = let l : length c.args.self.ends ≡ max_depth = search rules in omega arith

pub returns : goal.returns
returns c =
    let a = c.args in
    own-moved (search rules) c.enter-p.ensures ∙ ap (λ (w : Walk). entered w a.at a.end a.mark a.indexed) c.place.ensures
