use mathlib.Core.Path.{sym}
use Prim.Native.Nat.{◌*◌}
use Rattle.judging_bits.proofs.Laws.{zero-past}
use borrow.Author.Rules.{rules}
use Rattle.judging_variable.proofs.lead_zero.Goals as goal

pub returns-else-h-le2 : goal.returns-else-h-le2
returns-else-h-le2 c = sym (zero-past c.args.cs (4 * c.args.h) _ (search rules) (search rules))
