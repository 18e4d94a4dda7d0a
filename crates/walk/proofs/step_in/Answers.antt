-- `walk::step_in` meets its contract. Assumes nothing.
use mathlib.Core.Path.{◌≡◌, ap, ◌∙◌}
use native.Mathlib.Omega.{arith}
use lib.ListN.{length}
use Rattle.format.specs.Units.{domain}
use Rattle.format.specs.Judging.{max_depth}
use Rattle.walk_state.specs.Walking.{step_in}
use Rattle.walk.proofs.Steps.{by_value}
use borrow.Author.Rules.{rules}
use Rattle.walk.proofs.step_in.Goals as goal

pub returns : goal.returns
returns c =
    let a = c.args in
    let l : length a.w.ends ≡ max_depth = search rules in
    by_value (search rules) (c.move_in-m.ensures (omega arith)) ∙ ap (step_in (domain a.form) a.s.now) c.place.ensures
