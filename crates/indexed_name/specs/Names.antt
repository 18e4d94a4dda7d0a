-- The indexed code that is named, by the table of sextets. Assumes nothing.
use Rattle.std.specs.Prelude.{ℕ, eqb, None, Some, Option}
use Rattle.base.specs.Pick.{pick}
use Rattle.format.specs.declared.IndexRow.{IndexRow}
use Rattle.format.specs.declared.Kind.{Kind}
use Rattle.format.specs.declared.Kind.TheVariants.{Fixed, Variable, Group, Genus, Indexed}
use Rattle.format.specs.declared.Opening.{Opening}
use Rattle.format.specs.declared.Opening.TheVariants.{Unknown, Short, Long, LargeVariable, LargeGroup, Version}
use Rattle.format.specs.Alphabet.{sextet_of}
use Rattle.format.specs.Indexed.{IndexNamed, none, row}

unfoldable pub as_named : Option IndexRow → IndexNamed
as_named None = none
as_named (Some c) = row c

-- ---- by sextets

-- a caller's selector. By sextets 0 says that the letter stands alone, and 0 is also the value of `A`, which is no code's selector: 64
unfoldable pub selector_of : ℕ → ℕ
selector_of s = pick (eqb s 0) 0 (pick (eqb (sextet_of s) 0) 64 (sextet_of s))

unfoldable pub row_of : Kind → IndexNamed
row_of (Fixed c) = none
row_of (Variable t l m) = none
row_of (Group l) = none
row_of Genus = none
row_of (Indexed c) = row c

unfoldable pub row_in : Opening → IndexNamed
row_in Unknown = none
row_in (Short k n) = row_of k
row_in (Long k n) = row_of k
row_in (LargeVariable t l) = none
row_in (LargeGroup l d) = none
row_in Version = none
