-- What is said of an item's size and of those that follow it. Assumes nothing.
use Rattle.std.specs.Prelude.{ℕ, ◌+◌, ◌*◌, ◌/◌, ◌-◌, ◌≤◌, ◌<◌, ◌≡◌, List, length}
use Rattle.format.specs.declared.Form.{Form}
use Rattle.format.specs.Units.{domain}
use Rattle.format.specs.Report.{rows_in}
use Rattle.runs.specs.Levels.{Clear}
use Rattle.runs.specs.Runs.{Run}
use Rattle.runs_tables.specs.declared.Tables.{Tables}
use Rattle.runs_tables.specs.Lent.{Lent}
use Rattle.report_sizes.specs.Sizes.{size_at}

-- an item of so many units at a unit, or 0 where nothing is framed, and r of its size behind it
pub record Sized (f : Form) (s : List ℕ) (at size r : ℕ) : Type 0 where
  pub first : size ≡ size_at (domain f) s at
  pub behind : 0 < size → Run (size_at (domain f) s) size (length s / (domain f).unit) (at + size) r

-- units and items of it and those behind it, or none
pub record Stepped (f : Form) (s : List ℕ) (at units items : ℕ) : Type 0 where
  pub size : ℕ
  pub more : ℕ
  pub sized : Sized f s at size more
  pub none : units ≡ 0 → size ≡ 0
  pub some : 0 < units → (0 < size) × (units ≡ size + more * size) × (items ≡ 1 + more)

-- which are within the stream, whatever the tables hold
abbrev pub Within : Form → List ℕ → ℕ → ℕ → ℕ → Type 0
Within f s at units items = (units ≤ length s / (domain f).unit - at) × (items ≤ units)

-- an item of so many units, and more of its size behind it: together so many units and items
pub record Together (size more units items : ℕ) : Type 0 where
  pub long : units ≡ size + more * size
  pub many : items ≡ 1 + more

pub record Small (size more : ℕ) : Type 0 where
  pub some : 0 < size
  pub fits : size + more * size ≤ 9223372036854775807

-- a step from a unit: within the stream, and right where the tables are and characters are known
pub record Next (f : Form) (tables : Tables) (s : List ℕ) (clean at units items : ℕ) : Type 0 where
  pub within : Within f s at units items
  pub right : Lent tables → Clear ((domain f).sextets s) at clean → Stepped f s at units items

-- the number of a stream's items
pub record Total (f : Form) (tables : Tables) (s : List ℕ) (known n : ℕ) : Type 0 where
  pub few : n ≤ length s / (domain f).unit
  pub right : Lent tables → Clear ((domain f).sextets s) 0 known → n ≡ length (rows_in (domain f) s)
