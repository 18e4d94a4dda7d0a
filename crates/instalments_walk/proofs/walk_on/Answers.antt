-- `instalments_walk::walk_on` meets its contract. Assumes nothing.
use mathlib.Core.Path.{◌≡◌, ap, ◌∙◌}
use native.Mathlib.Omega.{arith}
use lib.ListN.{length}
use Rattle.format.specs.Units.{domain}
use Rattle.format.specs.Judging.{max_depth}
use Rattle.instalments.specs.Instalments.{walk_on}
use Rattle.instalments_walk.proofs.Value.{by_value}
use borrow.Author.Rules.{rules}
use Rattle.instalments_walk.proofs.walk_on.Goals as goal

pub returns : goal.returns
returns c =
    let a = c.args in
    let l : length a.w.ends ≡ max_depth = search rules in
    by_value (search rules) (c.go_on-g.ensures (omega arith)) ∙ ap (walk_on (domain a.form) a.s.now a.budget) c.place.ensures
