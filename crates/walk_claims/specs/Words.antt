-- What the claims on the walk speak of. No proofs. Assumes nothing.
use Rattle.std.specs.Prelude.{ℕ, zero, suc, ◌+◌, ◌-◌, ◌*◌, ◌/◌, ◌%◌, ◌≤◌, ◌<◌, ◌≡◌, List, [], ◌∷◌, ◌++◌, Bool, true, false, ◌⊎◌, length, get_or, drop, ltb}
use Rattle.std.proofs.Math.Seq.{slice}
use Rattle.base.specs.Pick.{pick}
use Rattle.format.specs.declared.Kind.{Kind}
use Rattle.format.specs.declared.Kind.TheVariants.{Fixed, Variable, Group, Genus, Indexed}
use Rattle.format.specs.declared.Framed.{Framed}
use Rattle.format.specs.declared.Framed.TheVariants.{Item, Unframed}
use Rattle.format.specs.declared.Verdict.{Verdict}
use Rattle.format.specs.declared.Verdict.TheVariants.{Accepted, Refused}
use Rattle.format.specs.Units.{Domain}
use Rattle.format.specs.Registry.{is_indexed, is_overrideable}
use Rattle.format.specs.Framing.{is_ours, sextet, frame_ruled}
use Rattle.format.specs.Cutting.{Cut, cut}
use Rattle.format.specs.Cutting.Cut.{done, stopped, item}
use Rattle.format.specs.Judging.{shift, and_then, is_shortest, max_depth}
use Rattle.format.specs.Report.{ItemRow, RemainderRow, frame_in, judge_in, placed}
use Rattle.damage.specs.Words.{item_at}
use Rattle.claims.specs.Words.{Ratio}
use Rattle.claims_rules.specs.Order.{Rule, ◌when◌}
use Rattle.claims_rules.specs.Conditions.{framing, item_kind, item_head, item_size, own_rules}
use Rattle.walk_state.specs.declared.Walk.{Walk}
use Rattle.walk_state.specs.declared.Found.{Found}
use Rattle.walk_state.specs.declared.Found.TheVariants as F
use Rattle.walk_state.specs.declared.Stepped.{Stepped}
use Rattle.walk_state.specs.Walking.{start, stop_of, step_in}

-- ---- 13

-- a state fit for a stream of n whole units: none of 01's conditions for 13
pub record Fit (w : Walk) (n : ℕ) : Type 0 where
  -- "more than 16 open", 64 by 02 g
  pub few : w.depth ≤ max_depth
  -- "an unused slot not 0"
  pub unused : (i : ℕ) → w.depth ≤ i → i < max_depth → get_or w.ends i 0 ≡ 0
  -- "the position not before the innermost end"
  pub before : 0 < w.depth → w.at < get_or w.ends (w.depth - 1) 0
  -- "or past the stream"
  pub inside : w.at ≤ n
  -- "an inner end past its outer"
  pub nested : (i : ℕ) → suc i < w.depth → get_or w.ends (suc i) 0 ≤ get_or w.ends i 0
  -- "the outermost past the stream"
  pub outermost : 0 < w.depth → get_or w.ends 0 0 ≤ n
  -- "or the first-item mark set with none open"
  pub unmarked : w.depth ≡ 0 → w.first ≡ false
  -- 02 a: "its state says whether the innermost open group is one, and that mark with none open is 13"
  pub unindexed : w.depth ≡ 0 → w.indexed ≡ false

-- ---- a step's numbers, in order: 1, 13, framing, 7 where it is asked, judging

-- the sextets from the position to the innermost end
abbrev pub ahead_of : Domain → List ℕ → Walk → List ℕ
ahead_of d xs w = slice (4 * w.at) (4 * stop_of w (length xs / d.unit)) (d.sextets xs)

-- those of an item of n units
abbrev pub own_of : Domain → List ℕ → Walk → ℕ → List ℕ
own_of d xs w n = slice (4 * w.at) (4 * (w.at + n)) (d.sextets xs)

-- "genus/version required but not `AAACAA`": at top level, and where the first-item mark is set
abbrev pub OtherGenus : Walk → List ℕ → Type 0
OtherGenus w s = ((w.depth ≡ 0) ⊎ (w.first ≡ true)) × (item_kind w.indexed s ≡ Genus) × (is_ours (sextet s) ≡ false)

-- s: the sextets that are left, framed by the indexed table where its mark is set; of a group it judges only 11, and 18 by 02 h
abbrev pub step_rules : Domain → List ℕ → Walk → List Rule
step_rules d xs w =
    let s : List ℕ = ahead_of d xs w in
    1 when (d.limit < length xs) ∷
    13 when (Fit w (length xs / d.unit) → ⊥) ∷
    (framing w.indexed s
    ++ (7 when (OtherGenus w s) ∷
    own_rules (max_depth - w.depth) (item_kind w.indexed s) (item_head w.indexed s) (own_of d xs w (item_size w.indexed s))))

-- ---- the walk from the start

-- whole units of a stream
abbrev pub units_in : Domain → List ℕ → ℕ
units_in d xs = length xs / d.unit

-- elements of a unit that is not whole stand behind them
abbrev pub tail_of : Domain → List ℕ → Bool
tail_of d xs = ltb 0 (length xs % d.unit)

-- the state after k steps
unfoldable pub after : Domain → List ℕ → ℕ → Walk
after d xs zero = start
after d xs (suc k) = (step_in d xs (after d xs k)).next

-- what the step after those finds
abbrev pub found_at : Domain → List ℕ → ℕ → Found ℕ
found_at d xs k = (step_in d xs (after d xs k)).found

-- an item, or else a refusal or the end
abbrev pub Yields : Found ℕ → Type 0
Yields (F.Item o n d k h) = Unit {0}
Yields (F.Refused m p) = ⊥
Yields F.End = ⊥

abbrev pub Stops : Found ℕ → Type 0
Stops (F.Item o n d k h) = ⊥
Stops (F.Refused m p) = Unit {0}
Stops F.End = Unit {0}

-- its number and place as 01 and the calls for C have them: 0 for an item, 255 for the end, or the refusal's
unfoldable pub found_number : Found ℕ → ℕ
found_number (F.Item o n d k h) = 0
found_number (F.Refused number place) = number
found_number F.End = 255

unfoldable pub found_place : Found ℕ → ℕ
found_place (F.Item o n d k h) = o
found_place (F.Refused number place) = place
found_place F.End = 0

-- ---- a step that yields

-- every group is opened
unfoldable pub opens : Kind → Bool
opens (Fixed c) = false
opens (Variable t l c) = false
opens Genus = false
opens (Group letter) = true
opens (Indexed c) = false

-- "an `-A` `-B` `-C` group that isn't empty"
unfoldable pub marks : Kind → ℕ → ℕ → Bool
marks (Fixed c) head size = false
marks (Variable t l c) head size = false
marks Genus head size = false
marks (Group letter) head size = pick (ltb head size) (is_overrideable letter) false
marks (Indexed c) head size = false

-- the state next behind an item at offset o, of n elements, within e groups, of kind k with a header of h units
pub record Behind (d : Domain) (w : Walk) (o n e : ℕ) (k : Kind) (h : ℕ) (next : Walk) : Type 0 where
  pub offset : o ≡ w.at * d.unit
  -- "depth (the number of groups it stands within)"
  pub depth : e ≡ w.depth
  -- to the first item of a group that is opened, else behind the item
  pub position : next.at * d.unit ≡ o + pick (opens k) (h * d.unit) n
  -- "The first-item mark is set exactly by a step that opens an `-A` `-B` `-C` group that isn't empty; every other yielding
  -- step clears it."
  pub mark : next.first ≡ marks k (h * d.unit) n

-- ---- the open groups

-- the letter of a group that a step yields
unfoldable pub letter_of : Found ℕ → List ℕ
letter_of (F.Item o n e (Fixed c) h) = []
letter_of (F.Item o n e (Variable t l c) h) = []
letter_of (F.Item o n e Genus h) = []
letter_of (F.Item o n e (Indexed c) h) = []
letter_of (F.Item o n e (Group letter) h) = letter ∷ []
letter_of (F.Refused m p) = []
letter_of F.End = []

-- as many as are said to be open: those that were opened first
unfoldable pub still_open : ℕ → List ℕ → List ℕ
still_open depth letters = drop (length letters - depth) letters

-- the letters of the groups that are open after k steps, innermost first
unfoldable pub open_groups : Domain → List ℕ → ℕ → List ℕ
open_groups d xs zero = []
open_groups d xs (suc k) = still_open (after d xs (suc k)).depth (letter_of (found_at d xs k) ++ open_groups d xs k)

-- the innermost of these groups is a `-K` or `-L`
unfoldable pub innermost_indexed : List ℕ → Bool
innermost_indexed [] = false
innermost_indexed (letter ∷ outer) = is_indexed letter

-- ---- the items at depth 0

pub record Span : Type 0 where
  pub offset : ℕ
  pub size : ℕ

unfoldable pub outer : Found ℕ → List Span
outer (F.Item o n zero k h) = record { offset = o; size = n } ∷ []
outer (F.Item o n (suc d) k h) = []
outer (F.Refused m p) = []
outer F.End = []

-- those that the first k steps yield, in order
unfoldable pub outer_items : Domain → List ℕ → ℕ → List Span
outer_items d xs zero = []
outer_items d xs (suc k) = outer_items d xs k ++ outer (found_at d xs k)

abbrev pub span_of : ItemRow → Span
span_of r = record { offset = r.offset; size = r.size }

-- of a group a step judges only 11, and 18 by 02 h: it is yielded before its contents are judged, unless it is itself 18; sizes in units
unfoldable pub is_opened : Framed → Bool
is_opened (Item k h n) = pick (opens k) (is_shortest h (n - h)) false
is_opened (Unframed n p) = false

-- an item in front of those behind it
unfoldable pub up_to : Verdict → Bool → Span → List Span → List Span
up_to Accepted opened s behind = s ∷ behind
up_to (Refused n p) opened s behind = pick opened (s ∷ []) []

-- the report's items up to the first that is refused; that one too, if it is a group that is opened
unfoldable pub up_to_refusal : Domain → List ℕ → List ItemRow → List Span
up_to_refusal d xs [] = []
up_to_refusal d xs (r ∷ rs) = up_to r.verdict (is_opened (frame_ruled (d.sextets (item_at xs r)))) (span_of r) (up_to_refusal d xs rs)

-- ---- where the walk stops

unfoldable pub found_of : Verdict → Found ℕ
found_of Accepted = F.End
found_of (Refused n p) = F.Refused n p

-- the first refusal of items one by one, from offset o on, or of what cannot be framed behind them
unfoldable pub first_of : Domain → ℕ → Cut → Verdict
first_of d o done = Accepted
first_of d o (stopped n p r) = shift o (placed d.unit (Refused n p))
first_of d o (item i c) = and_then (shift o (judge_in d i)) (first_of d (o + length i) c)

abbrev pub first_refusal : Domain → List ℕ → Verdict
first_refusal d xs = first_of d 0 (cut (frame_in d) xs)

-- a refused item's number and place, or what holds behind an accepted one
abbrev pub LastBy : Verdict → Found ℕ → Type 0 → Type 0
LastBy Accepted f behind = behind
LastBy (Refused n p) f behind = f ≡ F.Refused n p

-- by the report: the first refused item's number and place, else the remainder's number at or behind its offset, else the end
abbrev pub Last : List ItemRow → List RemainderRow → Found ℕ → Type 0
Last [] [] f = f ≡ F.End
Last [] (t ∷ ts) f = (p : ℕ) × (f ≡ F.Refused t.number (t.offset + p))
Last (r ∷ rs) ts f = LastBy r.verdict f (Last rs ts f)

-- ---- text and binary

-- the same depth, kind and header, or the same number; offsets, sizes and places in the ratio four to three
abbrev pub FoundRatio : Found ℕ → Found ℕ → Type 0
FoundRatio (F.Item o n d k h) (F.Item o' n' d' k' h') = Ratio o o' × Ratio n n' × (d ≡ d') × (k ≡ k') × (h ≡ h')
FoundRatio (F.Refused m p) (F.Refused m' p') = (m ≡ m') × Ratio p p'
FoundRatio F.End F.End = Unit {0}
FoundRatio (F.Item o n d k h) (F.Refused m p) = ⊥
FoundRatio (F.Item o n d k h) F.End = ⊥
FoundRatio (F.Refused m p) (F.Item o n d k h) = ⊥
FoundRatio (F.Refused m p) F.End = ⊥
FoundRatio F.End (F.Item o n d k h) = ⊥
FoundRatio F.End (F.Refused m p) = ⊥

-- a step of one state in a text and in a binary: the same next state
pub record SameStep (t b : Stepped ℕ) : Type 0 where
  pub next : t.next ≡ b.next
  pub found : FoundRatio t.found b.found
