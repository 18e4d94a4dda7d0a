-- What the second judge's steps ask and answer: an item's own characters, a verdict with a place that can be counted on without an overflow,
-- and what a text begins with. Assumes nothing.
use Rattle.std.specs.Prelude.{ℕ, ◌+◌, ◌*◌, ◌%◌, ◌≤◌, ◌≡◌, Bool, List, length, take}
use Rattle.format.specs.declared.Framed.{Framed}
use Rattle.format.specs.declared.Framed.TheVariants as F
use Rattle.format.specs.declared.Verdict.{Verdict}
use Rattle.format.specs.declared.Verdict.TheVariants.{Accepted, Refused}
use Rattle.format.specs.Units.{text_sextets}
use Rattle.format.specs.Framing.{frame_next}
use Rattle.format.specs.Judging.{judge_kind, group}
use Rattle.second.specs.declared.Judged.{Judged}
use Rattle.second.specs.declared.Judged.TheVariants as J

-- whole units, with a header of h
pub record Own (h : ℕ) (t : List ℕ) : Type 0 where
  pub inside : 4 * h ≤ length t
  pub whole : length t % 4 ≡ 0

-- a place of n at most
abbrev pub Near : ℕ → Verdict → Type 0
Near n Accepted = 0 ≤ n
Near n (Refused m p) = p ≤ n

-- a verdict with such a place
pub record Told (v : Verdict) (n : ℕ) (r : Verdict) : Type 0 where
  pub is : r ≡ v
  pub near : Near n r

-- what is framed, judged where l groups may be entered
unfoldable pub judged_of : ℕ → List ℕ → Framed → Judged
judged_of l s (F.Item k h n) = J.Item n (judge_kind k h (take (4 * n) s) (group l))
judged_of l s (F.Unframed m p) = J.Unframed m p

abbrev pub NearItem : ℕ → Judged → Type 0
NearItem n (J.Item m v) = Near n v
NearItem n (J.Unframed m p) = p ≤ n

-- what a text begins with, by the table that is asked
pub record Next (indexed asked : Bool) (l : ℕ) (t : List ℕ) (r : Judged) : Type 0 where
  pub is : r ≡ judged_of l (text_sextets t) (frame_next indexed asked (text_sextets t))
  pub near : NearItem (length t + 8) r
