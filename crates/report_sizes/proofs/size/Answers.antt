use native.Mathlib.Omega.{arith}
use mathlib.Core.Path.{◌∙◌, ap}
use Rattle.report_sizes.specs.Sizes.{size_of}
use Rattle.report_sizes.proofs.Laws.{size-told, size_fits}
use Rattle.report_sizes.proofs.size.Goals as goal

pub returns-then-m-all : goal.returns-then-m-all
returns-then-m-all c = (omega (arith, c.units-all.ensures, c.if-m-all.true), λ l K. size-told c.args.form c.args.s.now c.args.at _ _ c.units-all.ensures c.if-at-all.true c.if-m-all.true c.if-m-gt0.true (c.told-m.ensures l K))

pub returns : goal.returns
returns c = (size_fits c.args.form c.args.s.now _ _ (c.size_of.ensures ∙ ap size_of c.framed.ensures), λ l K. c.size_of.ensures ∙ ap size_of c.framed.ensures)
