-- What is said of the item at a byte of a mixed stream, and of the fast way to it. Assumes nothing.
use Rattle.std.specs.Prelude.{ℕ, ◌/◌, ◌≤◌, ◌<◌, ◌≡◌, List, length, take, drop}
use Rattle.format.specs.declared.Form.{Form}
use Rattle.format.specs.declared.Kind.{Kind}
use Rattle.format.specs.declared.Framed.TheVariants.{Item}
use Rattle.format.specs.declared.Verdict.{Verdict}
use Rattle.format.specs.declared.Verdict.TheVariants.{Accepted}
use Rattle.format.specs.Units.{domain}
use Rattle.format.specs.Judging.{shift}
use Rattle.runs.specs.Levels.{Clear}
use Rattle.report_found.specs.Limits.{longest}
use Rattle.runs_tables.specs.declared.Tables.{Tables}
use Rattle.runs_tables.specs.Lent.{Lent}
use Rattle.report_fast_laws.specs.Fast.{Accepts}
use Rattle.mixed.specs.declared.Start.TheVariants.{Cesr}
use Rattle.mixed.specs.Mixed.{start_at, frame_mixed, judge_mixed}
use Rattle.mixed_known.specs.Known.{Known}

-- an item of n bytes is framed there, and has this verdict, its place counted on
pub record Found (s : List ℕ) (at n : ℕ) (v : Verdict) : Type 0 where
  pub kind : Kind
  pub head : ℕ
  pub framed : frame_mixed (drop at s) ≡ Item kind head n
  pub judged : v ≡ shift at (judge_mixed (take n (drop at s)))

-- the units of an accepted item at a part's start; 0 says nothing
pub record Units (f : Form) (tables : Tables) (part : List ℕ) (clean r : ℕ) : Type 0 where
  pub few : r ≤ length part / (domain f).unit
  pub right : length part ≤ longest → Lent tables → Clear ((domain f).sextets part) 0 clean → Accepts (domain f) part 0 r

-- the bytes of an accepted item of a form; 0 says nothing
pub record Fast (f : Form) (tables : Tables) (s : List ℕ) (at to r : ℕ) : Type 0 where
  pub right : Lent tables → length s ≤ longest → Known s at to → start_at s at ≡ Cesr f → 0 < r → Found s at r Accepted
