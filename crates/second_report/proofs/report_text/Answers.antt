-- `second_report::report_text` meets its contract. Assumes nothing.
use Rattle.second_report.proofs.Answers.{text-long, text-given, text-answer}
use Rattle.second_report.proofs.report_text.Goals as goal

pub returns-then-stream-gt4194304 : goal.returns-then-stream-gt4194304
returns-then-stream-gt4194304 c = let told = text-long c.args.stream.now c.args.out.now c.if-stream-gt4194304.true in record { value = told.0; out_after = told.1 }

pub report-requires : goal.report-requires
report-requires c = search text-given

pub returns : goal.returns
returns c = let told = text-answer _ _ _ _ c.report.ensures in record { value = told.0; out_after = told.1 }
