-- The next item of a group, framed and judged by its own checks, and what it says of the group's verdict. Assumes nothing.
use Rattle.std.specs.Prelude.{ℕ, ◌*◌, ◌≡◌, Bool, List, take}
use Rattle.format.specs.declared.Kind.{Kind}
use Rattle.format.specs.declared.Framed.{Framed}
use Rattle.format.specs.declared.Framed.TheVariants.{Item, Unframed}
use Rattle.format.specs.declared.Verdict.TheVariants.{Accepted, Refused}
use Rattle.format.specs.Framing.{frame_next}
use Rattle.format.specs.Judging.{judge_kind, own_check}
use Rattle.laws.specs.Levels.{part, level}
use Rattle.judging.specs.Own.{told_by}
unfoldable pub use Rattle.report_kinds.specs.Kinds.{is_entered, is_ruled, holds_indexed}

unfoldable pub own_of : Framed → List ℕ → ℕ → Framed
own_of (Unframed m p) s l = Unframed m p
own_of (Item k h n) s l = told_by (Item k h n) (judge_kind k h (take (4 * n) s) (own_check l))

-- the item by the table that is asked, or the number and place of its refusal by framing or its own checks
unfoldable pub next_own : Bool → Bool → List ℕ → ℕ → Framed
next_own t first s l = own_of (frame_next t first s) s l

-- an item found: framed, and accepted by its own checks
pub record Own (t first : Bool) (x : List ℕ) (l : ℕ) (k : Kind) (h n : ℕ) : Type 0 where
  pub framed : frame_next t first x ≡ Item k h n
  pub accepted : judge_kind k h (take (4 * n) x) (own_check l) ≡ Accepted

-- what is said of the next item from a unit on: its refusal is the first, or it is found
abbrev pub Found : List ℕ → Bool → ℕ → Bool → ℕ → ℕ → Framed → Type 0
Found s t l first at stop (Unframed m p) = Refused m p ≡ level s t l first at stop
Found s t l first at stop (Item k h n) = Own t first (part s at stop) l k h n
