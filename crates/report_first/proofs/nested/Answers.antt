use native.Mathlib.Omega.{arith}
use Rattle.report_first.proofs.Laws.{nested-bounds, text-nested, binary-nested}
use Rattle.report_first.proofs.nested.Goals as goal

pub returns-in-Text : goal.returns-in-Text
returns-in-Text c = let h = nested-bounds _ _ _ _ _ _ c.nested_text.ensures in (h.0, h.1, rw c.in-Text.is (λ l u. text-nested c.args.tables.now c.args.s.now l (λ i. omega (arith, c.type_inv.s i)) c.args.at _ _ _ u c.nested_text.ensures))

pub returns-in-Binary : goal.returns-in-Binary
returns-in-Binary c = let h = nested-bounds _ _ _ _ _ _ c.nested_binary.ensures in (h.0, h.1, rw c.in-Binary.is (λ l u. binary-nested c.args.s.now c.args.at _ _ _ u c.nested_binary.ensures))
