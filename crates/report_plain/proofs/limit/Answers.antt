use Rattle.report_plain.proofs.Laws.{in-form}
use Rattle.report_plain.proofs.limit.Goals as goal

pub returns-in-Text : goal.returns-in-Text
returns-in-Text c = search in-form

pub returns-in-Binary : goal.returns-in-Binary
returns-in-Binary c = in-form _ _ c.args.tables.now.values c.args.tables.now.rows _ _ _ c.in-Binary.is (c.limit_binary.ensures c.args.tables.now.values)
