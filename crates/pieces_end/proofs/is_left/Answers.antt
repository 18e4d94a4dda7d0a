-- `pieces_end::is_left` meets its contract. Assumes nothing.
use mathlib.Core.Path.{◌≡◌}
use lib.ListN.{length}
use Rattle.format.specs.Judging.{max_depth}
use Rattle.pieces_end.proofs.Laws.{left-units, left-part}
use borrow.Author.Rules.{rules}
use Rattle.pieces_end.proofs.is_left.Goals as goal

pub returns-then-p : goal.returns-then-p
returns-then-p c =
    let a = c.args in
    let l : length a.p.walk.ends ≡ max_depth = search rules in
    (λ _. left-units a.form a.p.start a.p.read a.count c.if-p.true, l)

pub returns-else-p : goal.returns-else-p
returns-else-p c =
    let a = c.args in
    let l : length a.p.walk.ends ≡ max_depth = search rules in
    (λ h. left-part a.form a.p.start a.p.read a.count h c.if-p.false, l)
