use native.Mathlib.Omega.{arith}
use Rattle.report_first.proofs.Laws.{text-plain, binary-codes}
use Rattle.report_first.proofs.plain.Goals as goal

pub returns-in-Text : goal.returns-in-Text
returns-in-Text c = rw c.in-Text.is (λ l. text-plain c.args.tables.now c.args.s.now l (λ i. omega (arith, c.type_inv.s i)) c.args.at _ c.plain_text.ensures)

pub returns-in-Binary : goal.returns-in-Binary
returns-in-Binary c = rw c.in-Binary.is (λ l. binary-codes c.args.tables.now c.args.s.now l c.args.at _ c.plain_binary.ensures)
