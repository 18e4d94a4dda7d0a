-- `pieces_feed::feed` meets its contract. Assumes nothing.
use mathlib.Core.Path.{sym, ◌∙◌}
use borrow.Author.Tests.{not-true, not-false, leb-true}
use Rattle.format.specs.Units.{domain}
use Rattle.pieces_feed.proofs.Laws.{count-few, room_of, answer-unfit, answer-long, answer-little, gives-kept}
use borrow.Author.Rules.{rules}
use Rattle.pieces_feed.proofs.feed.Goals as goal

pub returns-then-not-is_fit : goal.returns-then-not-is_fit
returns-then-not-is_fit c =
    let a = c.args in
    let told = gives-kept (domain a.form) a.st a.piece.now a.items.now a.refusals.now 13 _
    (answer-unfit (domain a.form) a.st a.piece.now _ _ (sym c.is_fit.ensures ∙ c.if-not-is_fit.true)) c.kept.ensures in record { value = told.0; after = told.1.0; refusals_after = told.1.1 }

pub is_within-requires : goal.is_within-requires
is_within-requires c =
    let a = c.args in
    count-few a.form a.st (search rules) (sym c.is_fit.ensures ∙ c.if-not-is_fit.false)

pub returns-then-not-is_within : goal.returns-then-not-is_within
returns-then-not-is_within c =
    let a = c.args in
    let told = gives-kept (domain a.form) a.st a.piece.now a.items.now a.refusals.now 1 _
    (answer-long (domain a.form) a.st a.piece.now _ _ (sym c.is_fit.ensures ∙ c.if-not-is_fit.false)
    (sym c.is_within.ensures.0 ∙ c.if-not-is_within.true)) c.kept-then-not-is_within.ensures in record { value = told.0; after = told.1.0; refusals_after = told.1.1 }

pub rows_fit-requires : goal.rows_fit-requires
rows_fit-requires c =
    let w = c.is_within.ensures in
    record {
      held = w.2;
      few = w.1;
      fit = sym c.is_fit.ensures ∙ c.if-not-is_fit.false;
      within = leb-true _ _ (sym w.0 ∙ c.if-not-is_within.false);
    }

pub returns-then-not-rows_fit : goal.returns-then-not-rows_fit
returns-then-not-rows_fit c =
    let a = c.args in
    let told = gives-kept (domain a.form) a.st a.piece.now a.items.now a.refusals.now 3 _
    (answer-little (domain a.form) a.st a.piece.now _ _ (sym c.is_fit.ensures ∙ c.if-not-is_fit.false)
    (leb-true _ _ (sym c.is_within.ensures.0 ∙ c.if-not-is_within.false)) (sym c.rows_fit.ensures ∙ c.if-not-rows_fit.true))
    c.kept-then-not-rows_fit.ensures in record { value = told.0; after = told.1.0; refusals_after = told.1.1 }

pub enter-requires : goal.enter-requires
enter-requires c =
    let w = c.is_within.ensures in
    let r = room_of _ _ _ _ (sym c.rows_fit.ensures ∙ c.if-not-rows_fit.false) in (
      record {
        held = w.2;
        few = w.1;
        fit = sym c.is_fit.ensures ∙ c.if-not-is_fit.false;
        within = leb-true _ _ (sym w.0 ∙ c.if-not-is_within.false);
      },
      record { rows = r.0; refused = r.1 },
    )
