-- The sizes of what stands from a byte of a mixed stream on, and how many items there are. Assumes nothing.
use Rattle.std.specs.Prelude.{ℕ, ◌+◌, ◌*◌, ◌/◌, ◌≤◌, ◌≡◌, List, length, drop}
use Rattle.format.specs.declared.Form.{Form}
use Rattle.format.specs.declared.Framed.{Framed}
use Rattle.format.specs.declared.Framed.TheVariants.{Item, Unframed}
use Rattle.format.specs.Units.{domain}
use Rattle.runs.specs.Levels.{Clear}
use Rattle.runs_tables.specs.declared.Tables.{Tables}
use Rattle.runs_tables.specs.Lent.{Lent}
use Rattle.mixed.specs.declared.Start.TheVariants.{Cesr}
use Rattle.mixed.specs.Mixed.{start_at, frame_mixed, rows_mixed}
use Rattle.mixed_known.specs.Known.{Known}

-- the size of what is framed, 0 where nothing is
unfoldable pub size_of : Framed → ℕ
size_of (Item k h n) = n
size_of (Unframed m p) = 0

-- an item of n bytes at a part's start, none where nothing is framed, and m more of that size behind it
pub record Alike (part : List ℕ) (n m : ℕ) : Type 0 where
  pub each : (i : ℕ) → i ≤ m → n ≡ size_of (frame_mixed (drop (i * n) part))

-- the same in units: within the part, and right where the tables are and characters are known
pub record Begun (f : Form) (tables : Tables) (part : List ℕ) (clean n m : ℕ) : Type 0 where
  pub within : n + m * n ≤ length part / (domain f).unit
  pub right : Lent tables → Clear ((domain f).sextets part) 0 clean → start_at part 0 ≡ Cesr f → Alike part (n * (domain f).unit) m

-- at a byte of a stream, of a form
pub record NextBy (f : Form) (tables : Tables) (s : List ℕ) (at to n m : ℕ) : Type 0 where
  pub within : at + (n + m * n) ≤ length s
  pub right : Lent tables → Known s at to → start_at s at ≡ Cesr f → Alike (drop at s) n m

-- and whatever stands there
pub record Next (tables : Tables) (s : List ℕ) (at to n m : ℕ) : Type 0 where
  pub within : at + (n + m * n) ≤ length s
  pub right : Lent tables → Known s at to → Alike (drop at s) n m

-- the number of a stream's items
pub record Total (tables : Tables) (s : List ℕ) (known n : ℕ) : Type 0 where
  pub few : n ≤ length s
  pub right : Lent tables → Known s 0 known → n ≡ length (rows_mixed s)
