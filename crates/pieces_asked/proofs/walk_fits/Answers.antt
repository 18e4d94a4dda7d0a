-- `pieces_asked::walk_fits` meets its contract. Assumes nothing.
use mathlib.Core.Path.{◌≡◌, ap, ◌∙◌}
use native.Mathlib.Omega.{arith}
use lib.ListN.{length}
use Rattle.format.specs.Judging.{max_depth}
use Rattle.walk_state.specs.declared.Walk.{Walk}
use Rattle.walk_state.specs.Walking.{is_fit}
use Rattle.pieces_asked.proofs.Laws.{reach-is}
use borrow.Author.Rules.{rules}
use Rattle.pieces_asked.proofs.walk_fits.Goals as goal

pub returns : goal.returns
returns c =
    let a = c.args in
    let l : length a.w.ends ≡ max_depth = search rules in
    c.is_fit.ensures (omega arith) ∙ ap (λ (w : Walk). is_fit w 1074790402) c.place.ensures ∙ ap (is_fit a.w) (reach-is a.form)
