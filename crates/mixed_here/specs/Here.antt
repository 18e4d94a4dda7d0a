-- What is said of what stands at a byte of a mixed stream. Assumes nothing.
use Rattle.std.specs.Prelude.{ℕ, ◌≤◌, ◌≡◌, List, length, drop}
use Rattle.format.specs.declared.Framed.TheVariants.{Unframed}
use Rattle.report_found.specs.Limits.{longest}
use Rattle.runs_tables.specs.declared.Tables.{Tables}
use Rattle.runs_tables.specs.Lent.{Lent}
use Rattle.mixed.specs.Mixed.{start_at, form_byte, frame_mixed}
use Rattle.mixed_known.specs.Known.{Known}
use Rattle.mixed_fast.specs.Found.{Found}
use Rattle.mixed_here.specs.declared.Standing.{Standing}
use Rattle.mixed_here.specs.declared.Standing.TheVariants.{Item, Rest}

-- an item is found and this is the byte of its form, or nothing is framed for this reason
abbrev pub Stands : List ℕ → ℕ → Standing → Type 0
Stands s at (Item n v b) = Found s at n v × (b ≡ form_byte (start_at s at))
Stands s at (Rest x) = (p : ℕ) × (frame_mixed (drop at s) ≡ Unframed x p)

-- of a stream that is not too long
pub record General (s : List ℕ) (at : ℕ) (r : Standing) : Type 0 where
  pub right : length s ≤ longest → Stands s at r

-- and where the tables are right and characters are known
pub record Judged (tables : Tables) (s : List ℕ) (at to : ℕ) (r : Standing) : Type 0 where
  pub right : Lent tables → length s ≤ longest → at ≤ length s → Known s at to → Stands s at r
