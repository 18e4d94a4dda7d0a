-- `reading_tag::row_tag` meets its contract: a row that has tag characters has them where they are read. Assumes nothing.
use mathlib.Core.Path.{◌∙◌}
use native.Mathlib.Omega.{arith}
use Rattle.reading_tag.proofs.Tags.{no-tag-row, tag-padded}
use borrow.Author.Rules.{rules}
use Rattle.reading_tag.proofs.row_tag.Goals as goal

pub returns-then-tag-eq0 : goal.returns-then-tag-eq0
returns-then-tag-eq0 c = λ _. no-tag-row _ _ (omega arith)

pub returns-then-tag-gt11 : goal.returns-then-tag-gt11
returns-then-tag-gt11 c = λ f. absurd (omega (arith, (f (λ e. omega arith)).2))

pub returns-then-start-tag-gt12 : goal.returns-then-start-tag-gt12
returns-then-start-tag-gt12 c = λ f. let g = f (λ e. omega arith) in absurd (omega (arith, g.0, g.1))

pub returns : goal.returns
returns c =
    let w = c.from-tag.ensures in
    λ f. rw w at c.tag_from.ensures ∙ tag-padded _ _ _ (search rules) f (λ e. omega arith) (omega arith)
