-- What is said of the next item of a group at a unit of a stream: it is found, within what it was looked for in. Assumes nothing.
use Rattle.std.specs.Prelude.{ℕ, ◌+◌, ◌*◌, ◌≤◌, ◌<◌, ◌≡◌, Bool, true, List, length}
use Rattle.format.specs.declared.Form.{Form}
use Rattle.format.specs.declared.Kind.{Kind}
use Rattle.format.specs.declared.Framed.{Framed}
use Rattle.format.specs.declared.Framed.TheVariants.{Item, Unframed}
use Rattle.format.specs.Units.{Domain, domain}
use Rattle.report_next.specs.Next.{is_entered, Found}
use Rattle.report_found.specs.Limits.{longest}

-- units of a stream that is not too long
pub record Inside (d : Domain) (xs : List ℕ) (at stop : ℕ) : Type 0 where
  pub order : at ≤ stop
  pub room : d.unit * stop ≤ length xs
  pub few : length xs ≤ longest

-- and something of them left
pub record Here (f : Form) (s : List ℕ) (at stop : ℕ) : Type 0 where
  pub inside : Inside (domain f) s at stop
  pub left : at < stop

-- a refusal's place counted on
unfoldable pub moved : ℕ → Framed → Framed
moved by (Item k h n) = Item k h n
moved by (Unframed m p) = Unframed m (by + p)

-- a found item is within what it was looked for in, and a group is entered where one more may be
pub record Fits (l at stop : ℕ) (r : Framed) : Type 0 where
  pub each : (k : Kind) (h n : ℕ) → r ≡ Item k h n → (0 < h) × (h ≤ n) × (at + n ≤ stop) × (is_entered k ≡ true → 0 < l)

-- and right where there is something left of a stream that is not too long
pub record Finds (f : Form) (s : List ℕ) (t : Bool) (l : ℕ) (first : Bool) (at stop : ℕ) (r : Framed) : Type 0 where
  pub fits : Fits l at stop r
  pub right : Inside (domain f) s at stop → at < stop → Found ((domain f).sextets s) t l first at stop r

-- a place that is counted on is near
pub record Near (by : ℕ) (r : Framed) : Type 0 where
  pub few : by ≤ 5592404
  pub near : (m p : ℕ) → r ≡ Unframed m p → p ≤ 5592412
