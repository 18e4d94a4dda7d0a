use native.Mathlib.Omega.{arith}
use Rattle.report_first.proofs.Laws.{text-marks, binary-marks}
use Rattle.report_first.proofs.marks.Goals as goal

pub returns-in-Text : goal.returns-in-Text
returns-in-Text c = rw c.in-Text.is (λ l p. text-marks c.args.tables.now c.args.s.now l (λ i. omega (arith, c.type_inv.s i)) c.args.at _ p c.marks_text.ensures)

pub returns-in-Binary : goal.returns-in-Binary
returns-in-Binary c = rw c.in-Binary.is (λ l p. binary-marks c.args.s.now c.args.at _ p c.marks_binary.ensures)
