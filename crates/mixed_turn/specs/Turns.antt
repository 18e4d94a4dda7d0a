-- A turn of the loop that stores a mixed report's rows: what it asks and leaves. Assumes nothing.
use Rattle.std.specs.Prelude.{ℕ, ◌+◌, ◌*◌, ◌≤◌, ◌<◌, ◌≡◌, Bool, true, false, List, length, drop}
use Rattle.format.specs.declared.Framed.TheVariants.{Unframed}
use Rattle.filling.specs.Filling as F
use Rattle.report_found.specs.Limits.{longest}
use Rattle.runs_tables.specs.declared.Tables.{Tables}
use Rattle.runs_tables.specs.Lent.{Lent}
use Rattle.mixed.specs.Mixed.{frame_mixed, judge_mixed, rows_mixed, mixed_row_bytes}
use Rattle.mixed_laws.specs.Frames.{frames-mixed}
use Rattle.mixed_known.specs.Known.{Known}
use Rattle.mixed_rows.specs.Rows.{row-ten}
use Rattle.mixed_turn.specs.declared.Turn.{Turn}
use Rattle.mixed_turn.specs.declared.Turn.TheVariants.{Stored, Rest}

-- rows of ten bytes
abbrev pub Fill : List ℕ → List ℕ → ℕ → ℕ → ℕ → ℕ → List ℕ → Type 0
Fill s o n at i k out = F.Filled frame_mixed judge_mixed frames-mixed (mixed_row_bytes s) 10 (row-ten s) s o n at i k out

-- what a turn asks: something is left at a byte, and a buffer that holds all up to it has room for the whole
pub record Filling (s : List ℕ) (n at i k : ℕ) (out : List ℕ) : Type 0 where
  pub few : length s ≤ longest
  pub here : at < length s
  pub count : n ≡ length (rows_mixed s)
  pub room : 17 + 19 * n ≤ length out
  pub held : List ℕ
  pub filled : Fill s held n at i k out

-- what it leaves
abbrev pub After : List ℕ → List ℕ → ℕ → ℕ → ℕ → ℕ → Turn → List ℕ → Type 0
After s o n at i k (Stored m b) out = (0 < m) × (at + m ≤ length s) × Fill s o n (at + m) (i + 1) (k + b) out
After s o n at i k (Rest x) out = (p : ℕ) × (frame_mixed (drop at s) ≡ Unframed x p) × Fill s o n at i k out

abbrev pub Filled : List ℕ → ℕ → ℕ → ℕ → ℕ → List ℕ → Turn → List ℕ → Type 0
Filled s n at i k out r out' = Filling s n at i k out → (o : List ℕ) → Fill s o n at i k out → After s o n at i k r out'

-- it is right where the tables are and characters are known
pub record Turns (tables : Tables) (s : List ℕ) (n to at i k : ℕ) (out : List ℕ) (r : Turn) (out' : List ℕ) : Type 0 where
  pub right : Lent tables → Known s at to → Filled s n at i k out r out'

-- places that are within a stream and no report passes, whatever the buffer holds
pub record Placed (s : List ℕ) (n at i k : ℕ) : Type 0 where
  pub most : n ≤ 485440633518672410
  pub items : i ≤ n
  pub bad : k ≤ n
  pub inside : at ≤ length s

-- what a test says of places: true that they are within a stream, false that no report has them
pub record Places (s : List ℕ) (room n at i k : ℕ) (r : Bool) : Type 0 where
  pub placed : r ≡ true → room ≤ 9223372036854775807 → Placed s n at i k
  pub not-placed : r ≡ false → (out : List ℕ) → length out ≡ room → Filling s n at i k out → ⊥
