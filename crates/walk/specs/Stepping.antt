-- What the step's functions answer, in the shape of the code: proofs/Steps shows that Walking's steps are made of them. Assumes nothing.
use Rattle.std.specs.Prelude.{ℕ, ◌+◌, ◌-◌, ◌*◌, ◌≤◌, ◌<◌, ◌≡◌, List, Bool, true, false, length, eqb}
use Rattle.base.specs.Pick.{pick}
use Rattle.format.specs.declared.Kind.{Kind}
use Rattle.format.specs.declared.Framed.{Framed}
use Rattle.format.specs.declared.Framed.TheVariants.{Item, Unframed}
use Rattle.format.specs.declared.Form.{Form}
use Rattle.format.specs.Units.{domain, text}
use Rattle.format.specs.Judging.{max_depth}
use Rattle.report_next.specs.Next.{next_own, is_entered}
use Rattle.walk_state.specs.declared.Walk.{Walk}
use Rattle.walk_state.specs.declared.Place.{Place}
use Rattle.walk_state.specs.declared.Found.{Found}
use Rattle.walk_state.specs.declared.Found.TheVariants as F
use Rattle.walk_state.specs.declared.Stepped.{Stepped}
use Rattle.walk_state.specs.Walking.{is_fit, next_of, stop_of, found_in}
use Rattle.walk_state.specs.Lent.{Moves}
use Rattle.walk_extent.specs.Extent.{units_in}
use Rattle.walk.specs.declared.Moved.{Moved}

-- 7 is asked at top level, and where the mark is set
unfoldable pub is_asked : Place → Bool
is_asked p = pick (eqb p.depth 0) true p.first

abbrev pub place_of : Walk → Place
place_of w = record { depth = w.depth; at = w.at; first = w.first; indexed = w.indexed }

-- the next item, framed and judged by its own checks, or its refusal, at which the state stays as it was
unfoldable pub found_by : Walk → Framed → Stepped ℕ
found_by w (Unframed m p) = record { next = w; found = F.Refused m (4 * w.at + p) }
found_by w (Item k h n) = record { next = next_of w k h n; found = F.Item w.at n w.depth k h }

-- a step over a part, from the position to where the innermost group ends
unfoldable pub part_step : Walk → List ℕ → Stepped ℕ
part_step w s = found_by w (next_own w.indexed (is_asked (place_of w)) s (max_depth - w.depth))

-- a step's find in elements, u to the unit
abbrev pub in_elements : ℕ → Stepped ℕ → Stepped ℕ
in_elements u t = record { next = t.next; found = found_in u t.found }

abbrev pub is_item : Found ℕ → Bool
is_item (F.Item o n d k h) = true
is_item (F.Refused m p) = false
is_item F.End = false

-- a step in lent slots: what it leaves there, where it leads and what it finds; with no item they stay as they were
pub record Steps (before after : List ℕ) (r : Moved) (t : Stepped ℕ) : Type 0 where
  pub moves : Moves before after r.place t.next
  pub found : r.found ≡ t.found
  pub kept : is_item r.found ≡ false → after ≡ before

-- neither 1 nor 13
pub record Fits (form : Form) (xs : List ℕ) (w : Walk) : Type 0 where
  pub few : length xs ≤ (domain form).limit
  pub fit : is_fit w (units_in (domain form) xs) ≡ true

-- ---- what private functions ask: no number that they make passes a word

-- the longest stream's elements
abbrev pub reach : ℕ
reach = text.limit

-- a group that is entered finds a slot
abbrev pub Slotted : Kind → ℕ → Type 0
Slotted k d = is_entered k ≡ true → d < max_depth

-- an item, or its refusal, that can be told; of a place it is known that it lies in the item, or in a header
abbrev pub Ready : Place → Framed → Type 0
Ready p (Unframed m place) = place ≤ reach + 8
Ready p (Item k h n) = (h ≤ n) × (n ≤ reach) × Slotted k p.depth

-- where the next item is looked for: from the position to stop, in a stream within its limit
pub record Spans (form : Form) (xs : List ℕ) (p : Place) (stop : ℕ) : Type 0 where
  pub slots : p.depth ≤ max_depth
  pub order : p.at ≤ stop
  pub room : (domain form).unit * stop ≤ length xs
  pub few : length xs ≤ (domain form).limit

-- a stream within its limit of n whole units, in which the next item's part lies
pub record Near (form : Form) (xs : List ℕ) (n : ℕ) (w : Walk) : Type 0 where
  pub few : length xs ≤ (domain form).limit
  pub units : n ≡ units_in (domain form) xs
  pub slots : w.depth ≤ max_depth
  pub order : w.at ≤ stop_of w n
  pub room : stop_of w n ≤ n

abbrev pub InReach : Found ℕ → Type 0
InReach (F.Item o n d k h) = (o ≤ reach) × (n ≤ reach)
InReach (F.Refused m p) = Unit {0}
InReach F.End = Unit {0}
