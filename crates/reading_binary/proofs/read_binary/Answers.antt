-- `reading_binary::read_binary` meets its contract: what is found, and 3 or its text. Assumes nothing.
use mathlib.Core.Path.{ap, sym, ◌∙◌}
use Rattle.format.specs.declared.BinaryOffset.{BinaryOffset}
use Rattle.format.specs.declared.PrimitiveRead.{PrimitiveRead}
use Rattle.format.specs.Reading.{chars_left}
use Rattle.reading_found.proofs.Answers.{found_of, found-start, item-inside, text-inside}
use Rattle.reading_binary.proofs.Answers.{no_room, some-room, refused-anyway, chars-are}
use borrow.Author.Rules.{rules}
use Rattle.reading_binary.proofs.read_binary.Goals as goal

pub returns-then-out-p : goal.returns-then-out-p
unfolding chars_left
returns-then-out-p c =
    let a = c.args in
    let e = ap (λ (r : PrimitiveRead BinaryOffset). r.found) (sym c.found_at-read.ensures) ∙ c.in-Ok.is in
    record { value = c.no_binary.ensures ∙ no_room a.s.now a.at.0 _ _ (found_of a.s.now a.at.0 _ e) c.if-out-p.true; out_after = rw c.no_binary.ensures }

pub copy_text-requires : goal.copy_text-requires
copy_text-requires c =
    let a = c.args in
    let e = ap (λ (r : PrimitiveRead BinaryOffset). r.found) (sym c.found_at-read.ensures) ∙ c.in-Ok.is in
    let w = found_of a.s.now a.at.0 _ e in
    let st = found-start a.s.now a.at.0 _ _ e in
    (item-inside a.s.now a.at.0 _ w st, w.short, text-inside a.s.now a.at.0 _ w st, search rules)

pub returns-in-Err : goal.returns-in-Err
unfolding chars_left
returns-in-Err c =
    let a = c.args in
    let q = c.found_at-read.ensures in
    let e = ap (λ (r : PrimitiveRead BinaryOffset). r.found) (sym q) ∙ c.in-Err.is in
    record { value = q ∙ refused-anyway a.s.now a.at.0 _ _ _ e; out_after = rw c.in-Err.is }

pub returns-else-out-p : goal.returns-else-out-p
returns-else-out-p c =
    let a = c.args in
    let q = c.found_at-read.ensures in
    let e = ap (λ (r : PrimitiveRead BinaryOffset). r.found) (sym q) ∙ c.in-Ok.is in
    let w = found_of a.s.now a.at.0 _ e in
    let st = found-start a.s.now a.at.0 _ _ e in record { value = q ∙ some-room a.s.now a.at.0 _ _ w c.if-out-p.false; out_after = c.copy_text.ensures ∙ chars-are a.s.now a.at.0 _ w st a.out.now ∙ rw c.in-Ok.is }
