-- The first bytes of an indexed item, as code makes them: two units of sextets by the row's columns, and zeros. Assumes nothing.
use Rattle.std.specs.Prelude.{ℕ, ◌/◌, ◌%◌, List, [], ◌∷◌, ◌++◌, eqb}
use Rattle.base.specs.Pick.{pick}
use Rattle.format.specs.declared.IndexRow.{IndexRow}
use Rattle.format.specs.Units.{bytes_of}

-- selector and letter, and the index, of which three digits do not end here; zeros where neither fills it
unfoldable pub first_unit : IndexRow → ℕ → ℕ → List ℕ
first_unit c index ondex =
    pick (eqb c.chars 1) (c.letter ∷ (index % 64) ∷ 0 ∷ 0 ∷ [])
    (pick (eqb c.index 1) (c.selector ∷ c.letter ∷ (index % 64) ∷ (ondex % 64) ∷ [])
    (pick (eqb c.index 2) (c.selector ∷ c.letter ∷ (index / 64 % 64) ∷ (index % 64) ∷ [])
    (c.selector ∷ c.letter ∷ (index / 4096 % 64) ∷ (index / 64 % 64) ∷ [])))

unfoldable pub second_unit : IndexRow → ℕ → ℕ → List ℕ
second_unit c index ondex =
    pick (eqb c.index 1) (0 ∷ 0 ∷ 0 ∷ 0 ∷ [])
    (pick (eqb c.index 2) ((ondex / 64 % 64) ∷ (ondex % 64) ∷ 0 ∷ 0 ∷ [])
    ((index % 64) ∷ (ondex / 4096 % 64) ∷ (ondex / 64 % 64) ∷ (ondex % 64) ∷ []))

unfoldable pub head_bytes : IndexRow → ℕ → ℕ → List ℕ
head_bytes c index ondex = bytes_of (first_unit c index ondex) ++ (bytes_of (second_unit c index ondex) ++ (0 ∷ 0 ∷ 0 ∷ []))
