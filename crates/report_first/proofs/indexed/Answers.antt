-- `report_first::indexed` meets its contract. Assumes nothing.
use mathlib.Core.Path.{sym}
use native.Mathlib.Omega.{arith}
use Rattle.report_first.proofs.Laws.{text-indexed}
use Rattle.report_first.proofs.indexed.Goals as goal

pub returns-in-Text : goal.returns-in-Text
returns-in-Text c = rw c.in-Text.is (λ l. text-indexed c.args.tables.now c.args.s.now l (λ i. omega (arith, c.type_inv.s i)) c.args.at _ c.indexed_text.ensures)

pub returns-in-Binary : goal.returns-in-Binary
returns-in-Binary c = rw c.in-Binary.is (λ l. sym c.indexed_binary.ensures)
