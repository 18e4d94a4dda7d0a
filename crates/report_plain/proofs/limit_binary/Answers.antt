use native.Mathlib.Omega.{arith}
use Rattle.report_plain.proofs.Laws.{like-binary}
use Rattle.report_plain.proofs.limit_binary.Goals as goal

pub returns : goal.returns
returns c = like-binary c.args.rows.now _ _ _ (omega (arith, c.if-x-gt0.false)) c.if-x-gt207.false c.letter_row-row.ensures.0 c.if-row-size.false c.if-row-lt16.false
