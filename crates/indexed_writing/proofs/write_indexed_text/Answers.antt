-- `indexed_writing::write_indexed_text` meets its contract: refused as planned, or the item. Assumes nothing.
use Rattle.indexed_head.proofs.Heads.{told}
use Rattle.indexed_writing.proofs.Answers.{text-refused, text-done}
use Rattle.indexed_writing.proofs.write_indexed_text.Goals as goal

pub returns-in-Err : goal.returns-in-Err
returns-in-Err c =
    let a = c.args in
    let t = rw c.in-Err.is at (told a.code a.index a.ondex a.raw.now _ c.plan.ensures) in
    let told = text-refused _ _ _ a.raw.now a.out.now _ _ t in record { value = told.0; out_after = told.1 }

pub returns-in-Ok : goal.returns-in-Ok
returns-in-Ok c =
    let a = c.args in
    let t = rw c.in-Ok.is at (told a.code a.index a.ondex a.raw.now _ c.plan.ensures) in
    let w = c.text_row.ensures in
    let told = text-done _ _ _ a.raw.now a.out.now _ t _ _ w.value w.out_after in record { value = told.0; out_after = told.1 }
