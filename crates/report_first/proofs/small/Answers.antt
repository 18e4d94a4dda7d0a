use mathlib.Core.Path.{sym}
use native.Mathlib.Omega.{arith}
use Rattle.report_first.proofs.Laws.{text-small}
use Rattle.report_first.proofs.small.Goals as goal

pub returns-in-Text : goal.returns-in-Text
returns-in-Text c = rw c.in-Text.is (λ l. text-small c.args.tables.now c.args.s.now l (λ i. omega (arith, c.type_inv.s i)) c.args.at _ c.small_text.ensures)

pub returns-in-Binary : goal.returns-in-Binary
returns-in-Binary c = rw c.in-Binary.is (λ l. sym c.small_binary.ensures)
