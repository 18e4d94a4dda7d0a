use Rattle.report_rows.specs.Stores.{run-start}
use Rattle.report_alike.specs.Alike.{alike-none}
use Rattle.report_alike.proofs.put_alike.Goals as goal

pub returns : goal.returns
returns c = (alike-none _ _ _ _ _ _ _ _, run-start _ _ _ _)
