-- Rows of few digits. Assumes nothing.
use Rattle.std.specs.Prelude.{◌≤◌}
use Rattle.format.specs.declared.IndexRow.{IndexRow}

-- no index and no ondex has more than three digits
abbrev pub Few : IndexRow → Type 0
Few c = (c.index ≤ 3) × (c.ondex ≤ 3)
