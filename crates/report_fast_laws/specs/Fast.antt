-- What the fast way asks, and what it says of the item at a unit of a stream. Assumes nothing.
use Rattle.std.specs.Prelude.{ℕ, ◌-◌, ◌*◌, ◌/◌, ◌≤◌, ◌<◌, ◌≡◌, Bool, true, List, length, take, drop}
use Rattle.format.specs.declared.Form.{Form}
use Rattle.format.specs.declared.Kind.{Kind}
use Rattle.format.specs.declared.Framed.TheVariants.{Item}
use Rattle.format.specs.declared.Verdict.TheVariants.{Accepted}
use Rattle.format.specs.Units.{Domain, domain}
use Rattle.format.specs.Registry.{is_indexed}
use Rattle.format.specs.Framing.{frame_ruled}
use Rattle.format.specs.Judging.{shift}
use Rattle.format.specs.Report.{judge_in}
use Rattle.laws.specs.Levels.{level}
use Rattle.runs.specs.Plain.{small_at, letter_at}
use Rattle.runs.specs.Levels.{Clear}
use Rattle.report_found.specs.Limits.{longest}
use Rattle.report_item.specs.Items.{Takes}
use Rattle.runs_tables.specs.declared.Tables.{Tables}
use Rattle.runs_tables.specs.Lent.{Lent}

-- units of a stream
pub record Reach (f : Form) (s : List ℕ) (at stop : ℕ) : Type 0 where
  pub order : at ≤ stop
  pub room : stop ≤ length s / (domain f).unit

-- the stream is not too long, the tables are right, and all from a unit to another is known
pub record Ready (f : Form) (tables : Tables) (s : List ℕ) (at stop : ℕ) : Type 0 where
  pub few : length s ≤ longest
  pub lent : Lent tables
  pub clear : Clear ((domain f).sextets s) at stop

-- the item at a unit of a stream is framed as at top level, has r units, and its own bytes are accepted
pub record Good (d : Domain) (xs : List ℕ) (at r : ℕ) : Type 0 where
  pub kind : Kind
  pub head : ℕ
  pub framed : frame_ruled (d.sextets (drop (d.unit * at) xs)) ≡ Item kind head r
  pub judged : Accepted ≡ shift (d.unit * at) (judge_in d (take (d.unit * r) (drop (d.unit * at) xs)))

-- one-sided: 0 says nothing
abbrev pub Accepts : Domain → List ℕ → ℕ → ℕ → Type 0
Accepts d xs at r = 0 < r → Good d xs at r

-- a small group of so many units stands at a unit, and the indexed table frames its items
pub record Signed (f : Form) (tables : Tables) (s : List ℕ) (at n : ℕ) : Type 0 where
  pub sized : Lent tables → small_at ((domain f).sextets s) at ≡ n
  pub lettered : Lent tables → true ≡ is_indexed (letter_at ((domain f).sextets s) at)

-- the next item from a unit on by the table that is asked, if it ends in front of another and is accepted; 0 says nothing
pub record Take (f : Form) (tables : Tables) (s : List ℕ) (t : Bool) (l : ℕ) (first : Bool) (at stop r : ℕ) : Type 0 where
  pub few : r ≤ stop - at
  pub right : Ready f tables s at stop → Takes ((domain f).sextets s) t l first at stop r

-- all items from a unit to another are accepted; false says nothing
pub record Passes (f : Form) (tables : Tables) (s : List ℕ) (t : Bool) (l : ℕ) (first : Bool) (at stop : ℕ) (r : Bool) : Type 0 where
  pub right : Ready f tables s at stop → r ≡ true → level ((domain f).sextets s) t l first at stop ≡ Accepted
