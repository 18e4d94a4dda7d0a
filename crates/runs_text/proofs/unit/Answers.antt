-- `runs_text::unit` meets its contract. Assumes nothing.
use borrow.Author.Rules.{rules}
use Rattle.runs_text.proofs.Laws.{text-unit}
use Rattle.runs_text.proofs.unit.Goals as goal

pub returns : goal.returns
returns c f =
    text-unit f _ _ _ (search rules) c.value.ensures.value c.value-2.ensures.value c.value-3.ensures.value c.value-4.ensures.value
