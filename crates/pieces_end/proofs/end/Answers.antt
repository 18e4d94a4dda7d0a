-- `pieces_end::end` meets its contract. Assumes nothing.
use mathlib.Core.Path.{sym, ◌∙◌}
use borrow.Author.Tests.{not-true, not-false}
use Rattle.format.specs.Units.{domain}
use Rattle.pieces_end.proofs.Laws.{begun, start-few, end-unfit, end_whole, end-little, end-told}
use Rattle.pieces_end.proofs.end.Goals as goal

pub returns-then-not-is_fit : goal.returns-then-not-is_fit
returns-then-not-is_fit c =
    let a = c.args in
    let told = end-unfit (domain a.form) a.st a.out.now (sym c.is_fit.ensures ∙ c.if-not-is_fit.true) _ c.kept.ensures in record { value = told.0; out_after = told.1 }

pub returns-then-not-is_left : goal.returns-then-not-is_left
returns-then-not-is_left c =
    let a = c.args in
    let f = sym c.is_fit.ensures ∙ c.if-not-is_fit.false in
    let l = c.is_left.ensures in
    let told = end_whole (domain a.form) a.st a.out.now f (sym (l.0 (begun a.form a.st l.1 f)) ∙ c.if-not-is_left.true) _ c.told.ensures in record { value = told.0; out_after = told.1 }

pub returns-then-out-lt5 : goal.returns-then-out-lt5
returns-then-out-lt5 c =
    let a = c.args in
    let f = sym c.is_fit.ensures ∙ c.if-not-is_fit.false in
    let l = c.is_left.ensures in
    let told = end-little (domain a.form) a.st a.out.now f (sym (l.0 (begun a.form a.st l.1 f)) ∙ c.if-not-is_left.false) c.if-out-lt5.true _
    c.kept-then-out-lt5.ensures in record { value = told.0; out_after = told.1 }

pub put_rest-requires : goal.put_rest-requires
put_rest-requires c =
    let a = c.args in
    start-few a.form a.st c.is_left.ensures.1 (sym c.is_fit.ensures ∙ c.if-not-is_fit.false)

pub returns : goal.returns
returns c =
    let a = c.args in
    let f = sym c.is_fit.ensures ∙ c.if-not-is_fit.false in
    let l = c.is_left.ensures in
    let told = end-told (domain a.form) a.st a.out.now f (sym (l.0 (begun a.form a.st l.1 f)) ∙ c.if-not-is_left.false) c.if-out-lt5.false _
    c.put_rest.ensures _ c.told-2.ensures in record { value = told.0; out_after = told.1 }
