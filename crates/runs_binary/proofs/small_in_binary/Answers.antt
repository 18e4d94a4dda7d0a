-- `runs_binary::small_in_binary` meets its contract. Assumes nothing.
use mathlib.Core.Path.{sym, ◌∙◌}
use mathlib.Core.Bool.{true, false}
use Rattle.runs_binary.proofs.Laws.{small-unit}
use borrow.Author.Rules.{rules}
use Rattle.runs_binary.proofs.small_in_binary.Goals as goal

pub returns-then-is_small : goal.returns-then-is_small
returns-then-is_small c =
    small-unit _ _ (search rules) c.bytes-b.ensures true (sym c.if-is_small.true ∙ c.is_small.ensures)

pub returns-else-is_small : goal.returns-else-is_small
returns-else-is_small c =
    small-unit _ _ (search rules) c.bytes-b.ensures false (sym c.if-is_small.false ∙ c.is_small.ensures)
