-- `runs_text::valued_text` meets its contract. Assumes nothing.
use Rattle.runs_text.proofs.Laws.{text-past, text-valued, text-other}
use borrow.Author.Rules.{rules}
use Rattle.runs_text.proofs.valued_text.Goals as goal

pub returns-then-s-at : goal.returns-then-s-at
returns-then-s-at c = text-past _ _ _ _ c.if-s-at.true

pub returns-then-is_selector : goal.returns-then-is_selector
returns-then-is_selector c = text-valued _ _ _ (search rules) c.unit-u.ensures c.valued.ensures

pub returns : goal.returns
returns c =
    text-other _ _ _ (search rules) c.value.ensures.value _ c.is_selector.ensures c.if-is_selector.false
