-- `runs_tables::classes` meets its contract. The table is the definition's, by one computed test. Assumes nothing.
use Rattle.runs_tables.proofs.Laws.{classes-are}
use Rattle.runs_tables.proofs.classes.Goals as goal

pub returns : goal.returns
returns c = classes-are
