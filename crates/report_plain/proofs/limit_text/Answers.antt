use native.Mathlib.Omega.{arith}
use Prim.Native.Nat.{ℕ}
use mathlib.Core.Path.{ap}
use lib.ListN.{get_or}
use Rattle.report_plain.proofs.Laws.{like-text}
use Rattle.report_plain.proofs.limit_text.Goals as goal

pub returns : goal.returns
returns c = like-text c.args.values.now c.args.rows.now _ _ _ _ (omega (arith, c.from.ensures)) (ap (λ (n : ℕ). get_or c.args.values.now n 0) c.from.ensures) c.if-a-gt51.false c.letter_row-row.ensures.0 c.if-row-size.false
