-- `report_group::inside_accepted` meets its contract. Assumes nothing.
use mathlib.Core.Path.{◌∙◌}
use native.Mathlib.Omega.{arith}
use Rattle.format.specs.Judging.{max_depth}
use Rattle.report_fast_laws.specs.Laws.{ready-part, inside}
use Rattle.report_group.proofs.Laws.{nest-plain, nest-rest, nest-group}
use borrow.Author.Rules.{rules}
use Rattle.report_group.proofs.inside_accepted.Goals as goal

pub overflow_add-i-2 : goal.overflow_add-i-2
overflow_add-i-2 c = let h = c.nested-d.ensures.1 in search rules

pub overflow_sub-stop : goal.overflow_sub-stop
overflow_sub-stop c = omega (arith, c.nested-d.ensures.1, c.requires.1)

pub returns-then-plain-stop : goal.returns-then-plain-stop
returns-then-plain-stop c = λ R g e. nest-plain c.args.form c.args.tables.now c.args.s.now max_depth c.args.at c.args.stop (inside c.requires.0 R) c.requires.1 R _ (c.nested-d.ensures.2 R.lent) g (c.plain.ensures R.lent ∙ c.if-plain-stop.true)

pub overflow_add-at-2 : goal.overflow_add-at-2
overflow_add-at-2 c = let h = c.nested-d.ensures.1 in search rules

pub overflow_sub-d : goal.overflow_sub-d
overflow_sub-d c = c.nested-d.ensures.0

pub returns : goal.returns
returns c = λ R g e. nest-rest c.args.form c.args.tables.now c.args.s.now max_depth c.args.at c.args.stop (inside c.requires.0 R) c.requires.1 R _ (c.nested-d.ensures.2 R.lent) g _ (c.marks-first.ensures R.lent (nest-group c.args.form c.args.tables.now c.args.s.now max_depth c.args.at c.args.stop (inside c.requires.0 R) c.requires.1 R _ (c.nested-d.ensures.2 R.lent) g)) (c.passes.ensures.right (ready-part _ _ _ _ _ _ _ R (omega arith) (omega arith)) e)
