-- What the first unit of an indexed item decides, if its characters are known: that it is accepted, and how long it is. Assumes nothing.
use Rattle.std.specs.Prelude.{ℕ, List, ltb, eqb}
use Rattle.base.specs.Pick.{pick}
use Rattle.runs.specs.Plain.{unit_by}

-- 8 of `A` to `D`: four pad bits stand behind code and index
unfoldable pub lettered_of : ℕ → ℕ
lettered_of c = pick (ltb c 4) 22 0

-- `0A` and `0B` have no pad bits; 15 of `0B`
unfoldable pub zeroed_of : ℕ → ℕ → ℕ
zeroed_of b d = pick (eqb b 0) 39 (pick (eqb b 1) (pick (eqb d 0) 39 0) 0)

-- the size in units of an indexed item by its header, where that is one unit; 0 for everything else
unfoldable pub indexed_of : ℕ → ℕ → ℕ → ℕ → ℕ
indexed_of a b c d = pick (ltb a 4) (lettered_of c) (pick (eqb a 52) (zeroed_of b d) 0)

-- at a unit of a stream
abbrev pub indexed_at : List ℕ → ℕ → ℕ
indexed_at s at = unit_by indexed_of s at
