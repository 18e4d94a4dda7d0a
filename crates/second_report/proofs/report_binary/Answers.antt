-- `second_report::report_binary` meets its contract. Assumes nothing.
use Rattle.second_report.proofs.Answers.{binary-long, work-short, binary-given, binary-answer}
use Rattle.second_report.proofs.report_binary.Goals as goal

pub returns-then-stream-gt3145728 : goal.returns-then-stream-gt3145728
returns-then-stream-gt3145728 c =
    let a = c.args in
    let l = binary-long a.stream.now a.work.now a.out.now c.if-stream-gt3145728.true in
    record { value = l.0; work_after = l.1; out_after = l.2 }

pub returns-then-work-triplets : goal.returns-then-work-triplets
returns-then-work-triplets c =
    let a = c.args in
    let l = work-short a.stream.now a.work.now c.if-stream-gt3145728.false a.out.now c.if-work-triplets.true in
    record { value = l.0; work_after = l.1; out_after = l.2 }

pub report-requires : goal.report-requires
report-requires c =
    binary-given c.args.stream.now c.args.work.now c.if-stream-gt3145728.false c.if-work-triplets.false _ c.binary_to_text.ensures.value _ c.binary_to_text.ensures.dst_after

pub returns : goal.returns
returns c =
    let l = binary-answer c.args.stream.now c.args.work.now c.if-stream-gt3145728.false c.if-work-triplets.false _ c.binary_to_text.ensures.value _ c.binary_to_text.ensures.dst_after c.args.out.now _ _ c.report.ensures in
    record { value = l.0; work_after = l.1; out_after = l.2 }
