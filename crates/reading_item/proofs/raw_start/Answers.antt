-- `reading_item::raw_start` meets its contract: of a text it is the item's end, since its units are all that is behind the header.
-- Assumes nothing.
use native.Mathlib.Omega.{arith}
use borrow.Author.Tests.{eq-eqb, ne_eqb}
use Rattle.format.specs.Registry.{is_text}
use Rattle.format.specs.Values.{raw_start}
use Rattle.reading_item.proofs.raw_start.Goals as goal

pub returns-then-letter-eq0 : goal.returns-then-letter-eq0
unfolding raw_start is_text
returns-then-letter-eq0 c = λ shape. let k = c.in-Variable.is in let z = rw k at shape in rw (k, eq-eqb _ _ c.if-letter-eq0.true) (omega (arith, z.1))

pub returns-in-Fixed : goal.returns-in-Fixed
unfolding raw_start is_text
returns-in-Fixed c = λ _. rw c.in-Fixed.is c.fixed_start.ensures.0

pub returns-else-letter-eq0 : goal.returns-else-letter-eq0
unfolding raw_start is_text
returns-else-letter-eq0 c = λ _. rw (c.in-Variable.is, ne_eqb _ _ c.if-letter-eq0.false) (omega arith)

pub returns-in-Group : goal.returns-in-Group
unfolding raw_start is_text
returns-in-Group c = λ _. rw c.in-Group.is

pub returns-in-Genus : goal.returns-in-Genus
unfolding raw_start is_text
returns-in-Genus c = λ _. rw c.in-Genus.is

pub returns-in-Indexed : goal.returns-in-Indexed
unfolding raw_start is_text
returns-in-Indexed c = λ _. rw c.in-Indexed.is c.indexed_start.ensures.0
