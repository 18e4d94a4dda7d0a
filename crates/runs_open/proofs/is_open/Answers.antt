-- `runs_open::is_open` meets its contract. Assumes nothing.
use borrow.Author.Tests.{lt-ltb, le-ltb, eq-eqb, ne_eqb}
use native.Mathlib.Omega.{arith}
use Rattle.format.specs.Registry.{is_group, is_indexed}
use Rattle.runs.specs.Plain.{opens_by}
use Rattle.runs_open.proofs.is_open.Goals as goal

pub returns-then-a-ne62 : goal.returns-then-a-ne62
unfolding opens_by is_group is_indexed
returns-then-a-ne62 c = rw (ne_eqb _ _ c.if-a-ne62.true)

pub returns-then-b-gt28 : goal.returns-then-b-gt28
unfolding opens_by is_group is_indexed
returns-then-b-gt28 c = rw (eq-eqb _ _ c.if-a-ne62.false, le-ltb c.args.b 29 (omega (arith, c.if-b-gt28.true)))

pub returns-then-b-eq10 : goal.returns-then-b-eq10
unfolding opens_by is_group is_indexed
returns-then-b-eq10 c = rw (eq-eqb _ _ c.if-a-ne62.false, lt-ltb c.args.b 29 (omega (arith, c.if-b-gt28.false)), eq-eqb _ _ c.if-b-eq10.true)

pub returns : goal.returns
unfolding opens_by is_group is_indexed
returns c = rw (eq-eqb _ _ c.if-a-ne62.false, lt-ltb c.args.b 29 (omega (arith, c.if-b-gt28.false)), ne_eqb _ _ c.if-b-eq10.false)
