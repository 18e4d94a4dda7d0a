use mathlib.Core.Path.{ap, ◌∙◌}
use Prim.Native.Nat.{◌*◌}
use Rattle.format.specs.Conversion.{first_stranger}
use Rattle.judging.proofs.Laws.{to_end}
use Rattle.report_first.proofs.Laws.{known-text, known-binary}
use Rattle.report_first.proofs.known.Goals as goal

pub returns-else-s-at : goal.returns-else-s-at
returns-else-s-at c = known-text c.args.form c.args.s.now c.args.at c.args.clean _ c.in-Text.is (c.first_stranger.ensures ∙ ap first_stranger (to_end c.args.s.now (4 * c.args.at)))

pub returns-in-Binary : goal.returns-in-Binary
returns-in-Binary c = known-binary c.args.form c.args.s.now c.args.at c.args.clean _ c.in-Binary.is
