use mathlib.Core.Path.{refl}
use Rattle.framing_head.proofs.Laws.{unit-there, unit-past}
use borrow.Author.Rules.{rules}
use Rattle.framing_head.proofs.binary_unit.Goals as goal

pub returns-then-at-s : goal.returns-then-at-s
returns-then-at-s c =
    unit-there c.args.s.now c.args.k _ refl (search rules) c.unpack.result c.unpack.ensures

pub returns-else-at-s : goal.returns-else-at-s
returns-else-at-s c = unit-past c.args.s.now c.args.k (search rules)
