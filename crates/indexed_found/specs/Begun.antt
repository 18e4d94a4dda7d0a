-- What is asked of a part whose first item is told. Assumes nothing.
use Rattle.std.specs.Prelude.{ℕ, ◌≤◌, ◌≡◌, List, length}
use Rattle.format.specs.declared.Kind.{Kind}
use Rattle.format.specs.declared.Framed.TheVariants.{Item}
use Rattle.format.specs.Units.{text_sextets}
use Rattle.format.specs.Indexed.{reading_indexed}
use Rattle.reading_part.specs.Outcome.{outcome}

-- a text within the limit, and the indexed item that reading finds at its start
pub record Begun (part : List ℕ) (k : Kind) (h n : ℕ) : Type 0 where
  pub read : outcome (reading_indexed (text_sextets part)) ≡ Item k h n
  pub short : length part ≤ 4194304
