-- `runs_open::is_signed` meets its contract. Assumes nothing.
use mathlib.Core.Path.{◌≡◌, refl}
use mathlib.Core.Bool.{Bool, true, false}
use borrow.Author.Tests.{ne_eqb}
use Rattle.base.specs.Pick.{pick}
use Rattle.format.specs.Registry.{is_indexed}
use Rattle.runs_open.proofs.is_signed.Goals as goal

-- in either order
either : (k : Bool) → k ≡ pick k true false
either true = refl
either false = refl

pub returns-then-b-eq11 : goal.returns-then-b-eq11
unfolding is_indexed
returns-then-b-eq11 c = rw c.if-b-eq11.true

pub returns : goal.returns
unfolding is_indexed
returns c = rw (ne_eqb _ _ c.if-b-eq11.false) (either _)
