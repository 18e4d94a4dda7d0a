-- `indexed_writing::write_indexed_binary` meets its contract: refused as planned, or the item. Assumes nothing.
use Rattle.std.proofs.lemmas.Result.{err_from_is_err_and}
use Rattle.indexed_head.proofs.Heads.{told}
use Rattle.indexed_writing.proofs.Answers.{binary-refused, binary-done}
use Rattle.indexed_writing.proofs.write_indexed_binary.Goals as goal

pub returns-in_err-c : goal.returns-in_err-c
returns-in_err-c c =
    let a = c.args in
    let t = rw c.in_err-c.was at (told a.code a.index a.ondex a.raw.now _ c.plan.ensures) in
    let told = binary-refused _ _ _ a.raw.now a.out.now _ _ t in
    let e = err_from_is_err_and c.from_residual.result c.from_residual.ensures.1 in
    record { value = rw (e.1, e.2) told.0; out_after = rw (e.1, e.2) told.1 }

pub returns : goal.returns
returns c =
    let a = c.args in
    let t = rw c.in_ok-c.was at (told a.code a.index a.ondex a.raw.now _ c.plan.ensures) in
    let w = c.binary_row.ensures in
    let told = binary-done _ _ _ a.raw.now a.out.now _ t _ _ w.value w.out_after in record { value = told.0; out_after = told.1 }
