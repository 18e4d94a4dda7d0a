use native.Mathlib.Omega.{arith}
use Rattle.format.specs.Units.{binary}
use Rattle.laws.specs.Domains.{binary-reader}
use Rattle.claims.proofs.Demand3.{binary-demand3}
use Rattle.program.proofs.Laws.{prints, never, prints-none, prints-one}
use borrow.Author.Rules.{rules}
use Rattle.program.proofs.answer_binary.Goals as goal

pub returns-then-out-lt-ROOM : goal.returns-then-out-lt-ROOM
returns-then-out-lt-ROOM c =
    let told = prints-none binary c.args.s.now c.args.out.now (search rules) in
    record { value = told.0; out_after = told.1.0; prefix_len = told.1.1 }

pub returns-then-s-gt-LONGEST : goal.returns-then-s-gt-LONGEST
returns-then-s-gt-LONGEST c =
    let told = prints-one binary binary-reader c.args.s.now c.args.out.now (search rules) (search rules) in
    record { value = told.0; out_after = told.1.0; prefix_len = told.1.1 }

pub returns-in-Ok : goal.returns-in-Ok
returns-in-Ok c =
    let told = prints binary binary-reader binary-demand3 (omega arith) (omega arith) c.args.s.now c.args.out.now (search rules) (search rules) _ c.report_binary.ensures.value _ c.report_binary.ensures.out_after _ c.in-Ok.is in
    record { value = told.0; out_after = told.1.0; prefix_len = told.1.1 }

pub returns-in-Err : goal.returns-in-Err
returns-in-Err c =
    let z = never binary binary-reader binary-demand3 (omega arith) (omega arith) c.args.s.now c.args.out.now (search rules) (search rules) _ c.report_binary.ensures.value _ _ c.in-Err.is in
    absurd (omega arith)
