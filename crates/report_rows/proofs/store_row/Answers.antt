use Rattle.report_rows.proofs.Laws.{row_put}
use Rattle.report_rows.proofs.store_row.Goals as goal

pub returns-then-at-out : goal.returns-then-at-out
returns-then-at-out c = row_put c.args.out.now c.args.at _ _ _ c.store4.ensures c.store_told.ensures
