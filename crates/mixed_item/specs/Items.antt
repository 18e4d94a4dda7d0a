-- What is said of an item of a mixed stream, by its own bytes and where it stands. Assumes nothing.
use Rattle.std.specs.Prelude.{ℕ, ◌≤◌, ◌≡◌, List, length, take, drop}
use Rattle.format.specs.declared.Kind.{Kind}
use Rattle.format.specs.declared.Framed.TheVariants.{Item}
use Rattle.format.specs.declared.Verdict.{Verdict}
use Rattle.format.specs.Judging.{shift}
use Rattle.report_found.specs.Limits.{longest}
use Rattle.mixed.specs.Mixed.{frame_mixed, judge_mixed}

-- in elements of an item that is not too long, a place of refusal is no farther
abbrev pub farthest : ℕ
farthest = 8388608

-- bytes that are one item
pub record Own (xs : List ℕ) (v : Verdict) : Type 0 where
  pub right : length xs ≤ longest → (k : Kind) (h : ℕ) → frame_mixed xs ≡ Item k h (length xs) → v ≡ judge_mixed xs

-- an item of n bytes that is framed at an offset: its own bytes' verdict, its place counted on
pub record Judges (xs : List ℕ) (at n : ℕ) (v : Verdict) : Type 0 where
  pub right : length xs ≤ longest → (k : Kind) (h : ℕ) → frame_mixed (drop at xs) ≡ Item k h n
      → v ≡ shift at (judge_mixed (take n (drop at xs)))
