-- A turn of the loop that stores a report's rows, by the tables that are lent. Assumes nothing.
use Rattle.std.specs.Prelude.{ℕ, ◌+◌, ◌-◌, ◌*◌, ◌/◌, ◌≤◌, ◌<◌, min, ◌≡◌, List, [], ◌∷◌, ◌++◌, length}
use Rattle.format.specs.declared.Form.{Form}
use Rattle.format.specs.Units.{domain}
use Rattle.format.specs.Report.{be4}
use Rattle.runs.specs.Levels.{Clear}
use Rattle.report_found.specs.Limits.{longest}
use Rattle.runs_tables.specs.declared.Tables.{Tables}
use Rattle.runs_tables.specs.Lent.{Lent}
use Rattle.report_fast_laws.specs.Fast.{Accepts}
use Rattle.report_rows.specs.Stores.{put}
use Rattle.report_general.specs.declared.Turn.{Turn}
use Rattle.report_general.specs.Turns.{Turned}

-- an accepted group at a unit that ends in front of another, with a row of n left for it; 0 says nothing
pub record Next (f : Form) (tables : Tables) (s : List ℕ) (n end a i r : ℕ) : Type 0 where
  pub fits : r ≤ end - a
  pub left : 0 < r → i < n
  pub right : (clean : ℕ) → end ≡ min clean (length s / (domain f).unit) → length s ≤ longest → Lent tables
      → Clear ((domain f).sextets s) a clean → Accepts (domain f) s a r

-- an accepted item's row is stored where it has room
pub record RowPut (out : List ℕ) (i offset size : ℕ) (out' : List ℕ) : Type 0 where
  pub long : length out' ≡ length out
  pub right : 13 + 9 * i ≤ length out → out' ≡ put out (4 + 9 * i) (be4 offset ++ (be4 size ++ (0 ∷ [])))

-- it is right where the tables are and characters are known
pub record Turns (f : Form) (tables : Tables) (s : List ℕ) (n clean a i k : ℕ) (out : List ℕ) (r : Turn) (out' : List ℕ) : Type 0 where
  pub right : Lent tables → Clear ((domain f).sextets s) a clean → Turned f (domain f).unit s n a i k out r out'
