-- `reading_fill::text_start` meets its contract: behind the fill, or at the item's end. Assumes nothing.
use mathlib.Core.Path.{◌≡◌}
use native.Mathlib.Omega.{arith}
use borrow.Author.Tests.{eq-eqb, ne_eqb}
use Rattle.format.specs.Registry.{is_text}
use Rattle.reading_fill.specs.Texts.{text_start}
use Rattle.reading_fill.proofs.text_start.Goals as goal

pub returns-then-letter-eq0 : goal.returns-then-letter-eq0
unfolding text_start is_text
returns-then-letter-eq0 c =
    let a = c.args in
    λ few small.
    let h : c.min-i.result ≡ a.h = omega arith in
    rw (c.in-Variable.is, eq-eqb _ _ c.if-letter-eq0.true, c.fill_of.ensures.0, h)

pub returns-in-Fixed : goal.returns-in-Fixed
unfolding text_start is_text
returns-in-Fixed c = λ few small. rw c.in-Fixed.is (omega arith)

pub returns-else-letter-eq0 : goal.returns-else-letter-eq0
unfolding text_start is_text
returns-else-letter-eq0 c = λ few small. rw (c.in-Variable.is, ne_eqb _ _ c.if-letter-eq0.false) (omega arith)

pub returns-in-Group : goal.returns-in-Group
unfolding text_start is_text
returns-in-Group c = λ few small. rw c.in-Group.is (omega arith)

pub returns-in-Genus : goal.returns-in-Genus
unfolding text_start is_text
returns-in-Genus c = λ few small. rw c.in-Genus.is (omega arith)

pub returns-in-Indexed : goal.returns-in-Indexed
unfolding text_start is_text
returns-in-Indexed c = λ few small. rw c.in-Indexed.is (omega arith)
