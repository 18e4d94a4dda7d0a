-- What is said of the item at a unit of a stream: its verdict, and that it is accepted whole. Assumes nothing.
use Rattle.std.specs.Prelude.{ℕ, ◌*◌, ◌≤◌, ◌<◌, ◌≡◌, Bool, List, length, take, drop}
use Rattle.format.specs.declared.Kind.{Kind}
use Rattle.format.specs.declared.Framed.{Framed}
use Rattle.format.specs.declared.Framed.TheVariants.{Item, Unframed}
use Rattle.format.specs.declared.Verdict.{Verdict}
use Rattle.format.specs.declared.Verdict.TheVariants.{Refused}
use Rattle.format.specs.Units.{Domain}
use Rattle.format.specs.Framing.{frame_ruled}
use Rattle.format.specs.Judging.{shift}
use Rattle.format.specs.Report.{judge_in}
use Rattle.laws.specs.Levels.{level, Taken}
use Rattle.report_found.specs.Limits.{longest}

-- the verdict on an item of n units that is framed at a unit of a stream that is not too long: its own bytes', its place counted on
pub record Judges (d : Domain) (xs : List ℕ) (at n : ℕ) (v : Verdict) : Type 0 where
  pub judged : length xs ≤ longest → (k : Kind) (h : ℕ) → frame_ruled (d.sextets (drop (d.unit * at) xs)) ≡ Item k h n
      → v ≡ shift (d.unit * at) (judge_in d (take (d.unit * n) (drop (d.unit * at) xs)))

-- one-sided: 0 says nothing
abbrev pub Takes : List ℕ → Bool → ℕ → Bool → ℕ → ℕ → ℕ → Type 0
Takes s t l first at stop r = 0 < r → Taken s t l first at stop r

-- the next item judged whole: its refusal is the first, or it is taken
unfoldable pub Whole : List ℕ → Bool → ℕ → Bool → ℕ → ℕ → Framed → Type 0
Whole s t l first at stop (Unframed m p) = Refused m p ≡ level s t l first at stop
Whole s t l first at stop (Item k h n) = Taken s t l first at stop n
