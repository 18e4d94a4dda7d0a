-- Items of one size that begin alike and follow one another. Assumes nothing.
use Rattle.std.specs.Prelude.{ℕ, ◌+◌, ◌-◌, ◌*◌, ◌/◌, ◌≤◌, ◌<◌, min, Bool, false, List, eqb, length, get_or}
use Rattle.base.specs.Pick.{pick}
use Rattle.format.specs.declared.Form.{Form}
use Rattle.format.specs.declared.Form.TheVariants.{Text, Binary}
use Rattle.format.specs.Units.{domain}
use Rattle.runs.specs.Runs.{Run}

-- ---- items that begin alike, at elements of a stream: by the first unit, or by its first element

abbrev pub same : List ℕ → ℕ → ℕ → Bool
same s p q = eqb (get_or s p 0) (get_or s q 0)

abbrev pub same_two : List ℕ → ℕ → ℕ → Bool
same_two s p q = pick (same s p q) (same s (p + 1) (q + 1)) false

unfoldable pub same_unit : Form → List ℕ → ℕ → ℕ → Bool
same_unit Text s p q = pick (same_two s p q) (same_two s (p + 2) (q + 2)) false
same_unit Binary s p q = pick (same_two s p q) (same s (p + 2) (q + 2)) false

-- the first element, or the whole first unit
abbrev pub is_like : Form → List ℕ → Bool → ℕ → ℕ → Bool
is_like f s whole p q = pick whole (same_unit f s p q) (same s p q)

abbrev pub like_by : Form → List ℕ → Bool → ℕ → ℕ → ℕ → ℕ
like_by f s whole at size q = pick (is_like f s whole at q) size 0

-- in units
abbrev pub like_in : Form → List ℕ → Bool → ℕ → ℕ → ℕ → ℕ
like_in f s whole at size i = pick (is_like f s whole ((domain f).unit * at) ((domain f).unit * i)) size 0

-- ---- runs of items that begin alike

-- an item of so many units at a unit, and an end that is within the stream
pub record Span (f : Form) (s : List ℕ) (at size end : ℕ) : Type 0 where
  pub some : 0 < size
  pub fits : at + size ≤ end
  pub inside : end ≤ length s / (domain f).unit

-- the same in elements
pub record Elements (f : Form) (s : List ℕ) (at size end : ℕ) : Type 0 where
  pub some : (domain f).unit ≤ size
  pub fits : at + size ≤ end
  pub inside : end ≤ length s

-- so many like the item at a unit follow it, as far as characters are known
pub record Followers (f : Form) (s : List ℕ) (whole : Bool) (clean at size r : ℕ) : Type 0 where
  pub few : r * size ≤ length s / (domain f).unit - (at + size)
  pub run : 0 < size → Run (like_in f s whole at size) size (min clean (length s / (domain f).unit)) (at + size) r
