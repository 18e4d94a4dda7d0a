use native.Mathlib.Omega.{arith}
use Rattle.framing_head.proofs.Laws.{text-there, text-past}
use borrow.Author.Rules.{rules}
use Rattle.framing_head.proofs.text_sextet.Goals as goal

pub returns-then-i-s : goal.returns-then-i-s
returns-then-i-s c =
    text-there c.args.values.now c.args.s.now c.args.i _ c.requires (search rules) c.from.ensures (omega (arith, c.type_inv.s c.args.i))

pub returns-else-i-s : goal.returns-else-i-s
returns-else-i-s c = text-past c.args.s.now c.args.i (search rules)
