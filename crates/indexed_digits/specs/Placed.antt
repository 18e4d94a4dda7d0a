-- Rows whose digits lie in the first sextets. Assumes nothing.
use Rattle.std.specs.Prelude.{◌+◌, ◌≤◌}
use Rattle.format.specs.declared.IndexRow.{IndexRow}

-- three digits at most, which start in the first nine
pub record Placed (c : IndexRow) : Type 0 where
  pub from : c.chars + c.index ≤ 9
  pub index : c.index ≤ 3
  pub ondex : c.ondex ≤ 3
