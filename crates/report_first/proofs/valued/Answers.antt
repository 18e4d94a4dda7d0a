-- `report_first::valued` meets its contract. Assumes nothing.
use mathlib.Core.Path.{sym}
use native.Mathlib.Omega.{arith}
use Rattle.report_first.proofs.Laws.{text-valued}
use Rattle.report_first.proofs.valued.Goals as goal

pub returns-in-Text : goal.returns-in-Text
returns-in-Text c = rw c.in-Text.is (λ l. text-valued c.args.tables.now c.args.s.now l (λ i. omega (arith, c.type_inv.s i)) c.args.at _ c.valued_text.ensures)

pub returns-in-Binary : goal.returns-in-Binary
returns-in-Binary c = rw c.in-Binary.is (λ l. sym c.valued_binary.ensures)
