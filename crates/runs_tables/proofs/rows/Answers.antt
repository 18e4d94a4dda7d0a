-- `runs_tables::rows` meets its contract. The table is the definition's, by one computed test. Assumes nothing.
use Rattle.runs_tables.proofs.Laws.{table_is}
use Rattle.runs_tables.proofs.rows.Goals as goal

pub returns : goal.returns
returns c = table_is
