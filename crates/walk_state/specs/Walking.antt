-- 01, "The walk", over a stream's sextets: one definition for both forms. 02 a: "The walk opens these groups now, its state says whether the
-- innermost open group is one". Positions, ends and sizes in units, places in sextets. Assumes nothing.
use Rattle.std.specs.Prelude.{ℕ, zero, suc, ◌+◌, ◌-◌, ◌*◌, ◌/◌, ◌%◌, List, Bool, true, false, not, length, get_or, set, replicate, ltb, leb, eqb}
use Rattle.std.proofs.Math.Seq.{slice}
use Rattle.base.specs.Pick.{pick}
use Rattle.format.specs.declared.Kind.{Kind}
use Rattle.format.specs.declared.Kind.TheVariants.{Fixed, Variable, Group, Genus, Indexed}
use Rattle.format.specs.declared.Framed.{Framed}
use Rattle.format.specs.declared.Framed.TheVariants.{Item, Unframed}
use Rattle.format.specs.declared.Verdict.{Verdict}
use Rattle.format.specs.declared.Verdict.TheVariants.{Accepted, Refused}
use Rattle.format.specs.Units.{Domain, text, binary}
use Rattle.format.specs.Offsets.{text_offset, binary_offset}
use Rattle.format.specs.Registry.{is_indexed, is_overrideable}
use Rattle.format.specs.Framing.{frame_next}
use Rattle.format.specs.Judging.{judge_kind, own_check, max_depth}
use Rattle.walk_state.specs.declared.Walk.{Walk}
use Rattle.walk_state.specs.declared.Found.{Found}
use Rattle.walk_state.specs.declared.Found.TheVariants as F
use Rattle.walk_state.specs.declared.Stepped.{Stepped}
use Rattle.format.specs.declared.TextOffset.{TextOffset}
use Rattle.format.specs.declared.BinaryOffset.{BinaryOffset}

-- none open, at the stream's start
unfoldable pub start : Walk
start = record { ends = replicate max_depth 0; depth = 0; at = 0; first = false; indexed = false }

-- ---- 13: "walk state unfit for the stream", of n whole units

unfoldable pub all_below : (ℕ → Bool) → ℕ → Bool
all_below p zero = true
all_below p (suc k) = pick (p k) (all_below p k) false

-- an unused slot is 0; an inner end is not past its outer, and the outermost not past the stream
unfoldable pub slot_fits : List ℕ → ℕ → ℕ → ℕ → Bool
slot_fits ends depth n k =
    pick (ltb k depth) (leb (get_or ends k 0) (pick (eqb k 0) n (get_or ends (k - 1) 0))) (eqb (get_or ends k 0) 0)

-- no more than 64 open; the position not past the stream; the slots; with none open neither mark, else the position before the
-- innermost end
unfoldable pub is_fit : Walk → ℕ → Bool
is_fit w n =
    pick (leb w.depth max_depth)
    (pick (leb w.at n)
    (pick (all_below (slot_fits w.ends w.depth n) max_depth)
    (pick (eqb w.depth 0) (pick w.first false (not w.indexed)) (ltb w.at (get_or w.ends (w.depth - 1) 0)))
    false)
    false)
    false

-- ---- the next state

-- "Groups whose end is reached close within that step", innermost first, and their slots are 0. A `-K` or `-L` holds no groups, so none
-- that is around a group is one
unfoldable pub closed : ℕ → Walk → Walk
closed zero w = w
closed (suc k) w =
    pick (eqb (get_or w.ends k 0) w.at)
    (closed k (record { ends = set w.ends k 0; depth = k; at = w.at; first = w.first; indexed = false })) w

unfoldable pub moved_to : Walk → ℕ → Walk
moved_to w at = record { ends = w.ends; depth = w.depth; at = at; first = false; indexed = w.indexed }

-- a group with a header of h units and n in all: "The first-item mark is set exactly by a step that opens an `-A` `-B` `-C` group
-- that isn't empty"
unfoldable pub opened : Walk → ℕ → ℕ → Bool → Bool → Walk
opened w h n first indexed =
    record {
      ends = set w.ends w.depth (w.at + n);
      depth = w.depth + 1;
      at = w.at + h;
      first = pick (ltb h n) first false;
      indexed = indexed;
    }

-- every group is opened
unfoldable pub past : Walk → Kind → ℕ → ℕ → Walk
past w (Fixed c) h n = moved_to w (w.at + n)
past w (Variable t l c) h n = moved_to w (w.at + n)
past w Genus h n = moved_to w (w.at + n)
past w (Indexed c) h n = moved_to w (w.at + n)
past w (Group letter) h n = opened w h n (is_overrideable letter) (is_indexed letter)

unfoldable pub next_of : Walk → Kind → ℕ → ℕ → Walk
next_of w k h n = let v : Walk = past w k h n in closed v.depth v

-- ---- a step

-- where the innermost group ends, or the stream
unfoldable pub stop_of : Walk → ℕ → ℕ
stop_of w n = pick (eqb w.depth 0) n (get_or w.ends (w.depth - 1) 0)

-- "At a refusal or the end the state stays as it was."
unfoldable pub judged : Walk → Kind → ℕ → ℕ → Verdict → Stepped ℕ
judged w k h n (Refused m p) = record { next = w; found = F.Refused m (4 * w.at + p) }
judged w k h n Accepted = record { next = next_of w k h n; found = F.Item w.at n w.depth k h }

-- of a group it judges only 11, and 18 by 02 h
unfoldable pub framed_by : List ℕ → Walk → Framed → Stepped ℕ
framed_by s w (Unframed m p) = record { next = w; found = F.Refused m (4 * w.at + p) }
framed_by s w (Item k h n) = judged w k h n (judge_kind k h (slice (4 * w.at) (4 * (w.at + n)) s) (own_check (max_depth - w.depth)))

-- by the indexed table where that mark is set; 7 is asked at top level, and where the first-item mark is set
unfoldable pub frame_at : Walk → List ℕ → Framed
frame_at w part = frame_next w.indexed (pick (eqb w.depth 0) true w.first) part

-- s: the sextets of n whole units; tail: elements of a unit that is not whole stand behind them, which is 4 there
unfoldable pub step_fit : List ℕ → ℕ → Bool → Walk → Stepped ℕ
step_fit s n tail w =
    pick (eqb w.at n) (record { next = w; found = pick tail (F.Refused 4 (4 * n)) F.End })
    (framed_by s w (frame_at w (slice (4 * w.at) (4 * stop_of w n) s)))

unfoldable pub step : List ℕ → ℕ → Bool → Walk → Stepped ℕ
step s n tail w = pick (is_fit w n) (step_fit s n tail w) (record { next = w; found = F.Refused 13 0 })

-- ---- text and binary: 1 before 13

-- offset, size and place in elements, u to the unit
unfoldable pub found_in : ℕ → Found ℕ → Found ℕ
found_in u (F.Item o n d k h) = F.Item (o * u) (n * u) d k h
found_in u (F.Refused m p) = F.Refused m (p / 4 * u + p % 4)
found_in u F.End = F.End

unfoldable pub step_in : Domain → List ℕ → Walk → Stepped ℕ
step_in d xs w =
    pick (ltb d.limit (length xs)) (record { next = w; found = F.Refused 1 0 })
    (let r : Stepped ℕ = step (d.sextets xs) (length xs / d.unit) (ltb 0 (length xs % d.unit)) w in
    record { next = r.next; found = found_in d.unit r.found })

unfoldable pub text_item : Found ℕ → Found TextOffset
text_item (F.Item o n d k h) = F.Item (text_offset o) (text_offset n) d k h
text_item (F.Refused m p) = F.Refused m (text_offset p)
text_item F.End = F.End

unfoldable pub text_step : List ℕ → Walk → Stepped TextOffset
text_step xs w = let r : Stepped ℕ = step_in text xs w in record { next = r.next; found = text_item r.found }

unfoldable pub binary_item : Found ℕ → Found BinaryOffset
binary_item (F.Item o n d k h) = F.Item (binary_offset o) (binary_offset n) d k h
binary_item (F.Refused m p) = F.Refused m (binary_offset p)
binary_item F.End = F.End

unfoldable pub binary_step : List ℕ → Walk → Stepped BinaryOffset
binary_step xs w = let r : Stepped ℕ = step_in binary xs w in record { next = r.next; found = binary_item r.found }
