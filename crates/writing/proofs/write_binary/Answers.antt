-- `writing::write_binary` meets its contract: refused as planned, or the item. Assumes nothing.
use Rattle.writing.proofs.Answers.{binary-refused, binary-done, chars-in-binary}
use Rattle.writing.proofs.Plans.{told}
use borrow.Author.Rules.{rules}
use Rattle.writing.proofs.write_binary.Goals as goal

pub returns-in-Refused : goal.returns-in-Refused
returns-in-Refused c =
    let a = c.args in
    let t = rw c.in-Refused.is at (told a.code a.tag a.tags a.raw.now (search rules) _ c.plan_item-plan.ensures) in
    let told = binary-refused _ _ _ a.raw.now a.out.now _ _ t in record { value = told.0; out_after = told.1 }

pub returns-in-Units : goal.returns-in-Units
returns-in-Units c =
    let a = c.args in
    let t = rw c.in-Units.is at (told a.code a.tag a.tags a.raw.now (search rules) _ c.plan_item-plan.ensures) in
    let w = c.binary_item.ensures in
    let told = binary-done _ _ _ a.raw.now a.out.now _ _ t _ _ w.value w.out_after in record { value = told.0; out_after = told.1 }

pub returns-in-Text : goal.returns-in-Text
returns-in-Text c =
    let a = c.args in
    let t = rw c.in-Text.is at (told a.code a.tag a.tags a.raw.now (search rules) _ c.plan_item-plan.ensures) in
    let w = c.text_in_binary.ensures in
    let told = chars-in-binary _ _ _ a.raw.now a.out.now _ _ t _ _ w.value w.out_after in record { value = told.0; out_after = told.1 }
