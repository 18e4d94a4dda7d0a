-- `runs_binary::group_in_binary` meets its contract. Assumes nothing.
use mathlib.Core.Path.{sym, ◌∙◌}
use mathlib.Core.Bool.{true, false}
use Rattle.runs_binary.proofs.Laws.{open-unit}
use borrow.Author.Rules.{rules}
use Rattle.runs_binary.proofs.group_in_binary.Goals as goal

pub returns-then-is_open : goal.returns-then-is_open
returns-then-is_open c =
    open-unit _ _ (search rules) c.bytes-b.ensures true (sym c.if-is_open.true ∙ c.is_open.ensures)

pub returns-else-is_open : goal.returns-else-is_open
returns-else-is_open c =
    open-unit _ _ (search rules) c.bytes-b.ensures false (sym c.if-is_open.false ∙ c.is_open.ensures)
