-- A turn of the loop that stores a report's rows: what it asks and leaves, over either form. Assumes nothing.
use Rattle.std.specs.Prelude.{ℕ, ◌+◌, ◌*◌, ◌/◌, ◌≤◌, ◌<◌, ◌≡◌, Bool, true, false, List, length, drop}
use Rattle.format.specs.declared.Form.{Form}
use Rattle.format.specs.declared.Framed.TheVariants.{Unframed}
use Rattle.format.specs.Units.{domain}
use Rattle.format.specs.Report.{rows_in, frame_in, judge_in, row_bytes}
use Rattle.laws.specs.Domains.{reader}
use Rattle.laws.specs.Frames.{frames}
use Rattle.filling.specs.Stores.{row-long}
use Rattle.filling.specs.Filling.{Filled}
use Rattle.report_general.specs.declared.Turn.{Turn}
use Rattle.report_general.specs.declared.Turn.TheVariants.{Stored, Rest}

-- rows of nine bytes
abbrev pub Fill : Form → List ℕ → List ℕ → ℕ → ℕ → ℕ → ℕ → List ℕ → Type 0
Fill f s o n at i k out = Filled (frame_in (domain f)) (judge_in (domain f)) (frames (domain f) (reader f)) row_bytes 9 row-long s o n at i k out

-- what a turn asks: something is left at a unit, and a buffer that holds all up to it has room for the whole
pub record Filling (f : Form) (u : ℕ) (s : List ℕ) (n a i k : ℕ) (out : List ℕ) : Type 0 where
  pub unit : u ≡ (domain f).unit
  pub few : length s ≤ (domain f).limit
  pub here : u * a < length s
  pub count : n ≡ length (rows_in (domain f) s)
  pub room : 17 + 18 * n ≤ length out
  pub held : List ℕ
  pub filled : Fill f s held n (u * a) i k out

-- what it leaves
abbrev pub After : Form → ℕ → List ℕ → List ℕ → ℕ → ℕ → ℕ → ℕ → Turn → List ℕ → Type 0
After f u s o n a i k (Stored m j b) out = (0 < m) × (u * (a + m) ≤ length s) × Fill f s o n (u * (a + m)) (i + j) (k + b) out
After f u s o n a i k (Rest x) out = (p : ℕ) × (frame_in (domain f) (drop (u * a) s) ≡ Unframed x p) × Fill f s o n (u * a) i k out

-- places that are within a stream and no report passes, whatever the buffer holds
pub record Placed (f : Form) (u : ℕ) (s : List ℕ) (n a i k : ℕ) : Type 0 where
  pub unit : u ≡ (domain f).unit
  pub most : n ≤ 512409557603043100
  pub items : i ≤ n
  pub bad : k ≤ n
  pub inside : a ≤ length s / (domain f).unit

abbrev pub Turned : Form → ℕ → List ℕ → ℕ → ℕ → ℕ → ℕ → List ℕ → Turn → List ℕ → Type 0
Turned f u s n a i k out r out' = Filling f u s n a i k out → (o : List ℕ) → Fill f s o n (u * a) i k out → After f u s o n a i k r out'

-- what a test says of places: true that they are within a stream, false that no report has them
pub record Places (f : Form) (s : List ℕ) (room n a i k : ℕ) (r : Bool) : Type 0 where
  pub placed : r ≡ true → room ≤ 9223372036854775807 → Placed f (domain f).unit s n a i k
  pub not-placed : r ≡ false → (out : List ℕ) → length out ≡ room → Filling f (domain f).unit s n a i k out → ⊥
