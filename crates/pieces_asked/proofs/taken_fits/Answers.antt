-- `pieces_asked::taken_fits` meets its contract. Assumes nothing.
use mathlib.Core.Path.{ap, ◌∙◌}
use native.Mathlib.Omega.{arith}
use lib.Dec.{leb}
use Rattle.pieces_asked.proofs.Laws.{taken-many, taken-few}
use Rattle.pieces_asked.proofs.taken_fits.Goals as goal

pub returns-then-limit-count : goal.returns-then-limit-count
returns-then-limit-count c =
    let a = c.args in
    taken-many a.form a.read a.count (omega (arith, c.if-limit-count.true, c.limit-limit.ensures))

pub returns : goal.returns
returns c =
    let a = c.args in
    ap (leb a.read) (c.units.ensures ∙ rw c.limit-limit.ensures)
    ∙ taken-few a.form a.read a.count (omega (arith, c.if-limit-count.false, c.limit-limit.ensures))
