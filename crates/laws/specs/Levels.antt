-- A group's contents, framed and judged one by one: the verdict on those from a unit to the group's end. What a loop over them has
-- to know. Assumes nothing.
use Rattle.std.specs.Prelude.{ℕ, zero, suc, ◌+◌, ◌-◌, ◌*◌, ◌/◌, ◌≤◌, ◌<◌, ◌≡◌, refl, List, [], ◌∷◌, Bool, true, false, length, take, drop}
use Rattle.std.proofs.Common.{sym, ap, ◌∙◌, subst, arith, length-take-le, get_or-take, drop-drop, take-take}
use Rattle.std.proofs.Math.Seq.{slice, length-slice, slice_empty, take-nil}
use Rattle.base.specs.Pick.{pick, pick-by}
use Rattle.format.specs.declared.Kind.{Kind}
use Rattle.format.specs.declared.Kind.TheVariants.{Fixed, Variable, Group, Genus, Indexed}
use Rattle.format.specs.declared.Framed.{Framed}
use Rattle.format.specs.declared.Framed.TheVariants.{Item, Unframed}
use Rattle.format.specs.declared.Verdict.{Verdict}
use Rattle.format.specs.declared.Verdict.TheVariants.{Accepted, Refused}
use Rattle.format.specs.Registry.{opening_by}
use Rattle.format.specs.Framing.{sextet, frame_by, frame_next, frame_with, ruled, is_ours, scale}
use Rattle.format.specs.Cutting.{cut_by, cut}
use Rattle.format.specs.Cutting.Cut.{stopped, item}
use Rattle.format.specs.Judging.{shift, and_then, in_turn, frame4, frame_next4, contents, judge_kind, judge_by, group, judge_with}
use Rattle.damage.proofs.Cuts as C
use Rattle.laws.specs.Framing.{Good, Lawful, by-with, by-good}
use Rattle.laws.specs.Frames.{frames-any4}

-- ---- verdicts

pub shift-shift : (a b : ℕ) (v : Verdict) → shift a (shift b v) ≡ shift (a + b) v
unfolding shift
shift-shift a b Accepted = refl
shift-shift a b (Refused n p) = ap (Refused n) (omega arith)

shift-then : (o : ℕ) (v w : Verdict) → shift o (and_then v w) ≡ and_then (shift o v) (shift o w)
unfolding shift and_then
shift-then o Accepted w = refl
shift-then o (Refused n p) w = refl

pub shift-accepted : (o : ℕ) (v : Verdict) → shift o v ≡ Accepted → v ≡ Accepted
unfolding shift
shift-accepted o Accepted e = refl
shift-accepted o (Refused m p) e = let z : ◌≡◌ {A = ℕ} 0 1 = cc in absurd (omega arith)

pub then-accepts : (v : Verdict) → and_then v Accepted ≡ v
unfolding and_then
then-accepts Accepted = refl
then-accepts (Refused m p) = refl

-- ---- parts

-- the sextets of the units from at to stop
abbrev pub part : List ℕ → ℕ → ℕ → List ℕ
part s at stop = slice (4 * at) (4 * stop) s

pub part_length : (s : List ℕ) (at stop : ℕ) → 4 * stop ≤ length s → length (part s at stop) ≡ 4 * stop - 4 * at
part_length s at stop h = length-slice (4 * at) (4 * stop) s h

pub part-drop : (s : List ℕ) (at n stop : ℕ) → drop (4 * n) (part s at stop) ≡ part s (at + n) stop
part-drop s at n stop =
    let e : 4 * at + 4 * n ≡ 4 * (at + n) = omega arith in
    drop-drop (4 * n) (4 * at) (take (4 * stop) s) ∙ ap (λ (f : ℕ). slice f (4 * stop) s) e

pub take-of-drop : (n f : ℕ) (l : List ℕ) → take n (drop f l) ≡ drop f (take (f + n) l)
take-of-drop n zero l = let z : 0 + n ≡ n = omega arith in rw z
take-of-drop n (suc f) [] = let z : suc f + n ≡ suc (f + n) = omega arith in rw z (take-nil n)
take-of-drop n (suc f) (x ∷ l) = let z : suc f + n ≡ suc (f + n) = omega arith in rw z (take-of-drop n f l)

pub part-take : (s : List ℕ) (at n stop : ℕ) → at + n ≤ stop → take (n * 4) (part s at stop) ≡ part s at (at + n)
part-take s at n stop h =
    let e : 4 * at + n * 4 ≡ 4 * (at + n) = omega arith in
    take-of-drop (n * 4) (4 * at) (take (4 * stop) s) ∙ ap (drop (4 * at)) (take-take (4 * at + n * 4) (4 * stop) s (omega arith))
    ∙ ap (λ (t : ℕ). slice (4 * at) t s) e

-- ---- framing: 7 is asked of the first item of an overrideable group

ruled-item : (at : ℕ → ℕ) (r : Framed) (k : Kind) (h n : ℕ) → ruled at r ≡ Item k h n → r ≡ Item k h n
unfolding ruled
ruled-item at (Item (Fixed c) h' n') k h n e = e
ruled-item at (Item (Variable t l c) h' n') k h n e = e
ruled-item at (Item (Group l) h' n') k h n e = e
ruled-item at (Item (Indexed c) h' n') k h n e = e
ruled-item at (Unframed m p) k h n e = e
ruled-item at (Item Genus h' n') k h n e =
    pick-by (λ (r : Framed). r ≡ Item k h n → Item Genus h' n' ≡ Item k h n) (is_ours at) (Item Genus h' n') (Unframed 7 0) (λ _ q. q)
    (λ _ q. let z : ◌≡◌ {A = ℕ} 0 1 = cc in absurd (omega arith)) e

-- an item where 7 is asked is an item anywhere
pub any-item : (t first : Bool) (xs : List ℕ) (k : Kind) (h n : ℕ) → frame_next t first xs ≡ Item k h n → frame_by t xs ≡ Item k h n
unfolding frame_next
any-item t true xs k h n e = ruled-item (sextet xs) (frame_by t xs) k h n e
any-item t false xs k h n e = e

item-good : (t : Bool) (xs : List ℕ) (k : Kind) (h n : ℕ) → frame_by t xs ≡ Item k h n
    → Lawful (frame_with (opening_by t)) (sextet xs) (length xs / 4) k h n
item-good t xs k h n e = subst (Good (frame_with (opening_by t)) (sextet xs) (length xs / 4)) e (by-good t xs)

pub item-sizes : (t : Bool) (xs : List ℕ) (k : Kind) (h n : ℕ) → frame_by t xs ≡ Item k h n → (0 < h) × (h ≤ n) × (n ≤ length xs / 4)
item-sizes t xs k h n e = let g = item-good t xs k h n e in (g.some, g.inside, g.room)

-- an item's own sextets
pub frame-own : (t : Bool) (xs : List ℕ) (k : Kind) (h n : ℕ) → frame_by t xs ≡ Item k h n → frame_by t (take (n * 4) xs) ≡ Item k h n
frame-own t xs k h n e =
    let g = item-good t xs k h n e in
    let b = item-sizes t xs k h n e in
    by-with t (take (n * 4) xs)
    ∙ g.alike (sextet (take (n * 4) xs)) (length (take (n * 4) xs) / 4) (λ i l. get_or-take (n * 4) xs i 0 (omega arith))
    (omega (arith, length-take-le (n * 4) xs (omega arith)))

pub judge-own : (t : Bool) (l : ℕ) (xs : List ℕ) (k : Kind) (h n : ℕ) → frame_by t xs ≡ Item k h n
    → judge_with t l (take (n * 4) xs) ≡ judge_kind k h (take (n * 4) xs) (group l)
unfolding judge_with judge_by
judge-own t l xs k h n e = rw (frame-own t xs k h n e)

-- ---- contents, item by item

next4 : (t first : Bool) (xs : List ℕ) (r : Framed) → frame_next t first xs ≡ r → frame_next4 t first xs ≡ scale 4 r
unfolding frame_next4
next4 t first xs r e = ap (scale 4) e

contents-false : (t : Bool) (xs : List ℕ) → contents t false xs ≡ cut (frame4 t) xs
unfolding contents frame_next4 frame_next frame4
contents-false t [] = sym (C.cut-nil (frame4 t) (frames-any4 t))
contents-false t (x ∷ xs) = sym (C.cut_step (frame4 t) (frames-any4 t) x xs)

contents-item : (t first : Bool) (xs : List ℕ) (k : Kind) (h n : ℕ) → frame_next t first xs ≡ Item k h n
    → contents t first xs ≡ item (take (n * 4) xs) (contents t false (drop (n * 4) xs))
unfolding contents scale cut_by
contents-item t first [] k h n e = absurd (omega (arith, item-sizes t [] k h n (any-item t first [] k h n e)))
contents-item t first (x ∷ xs) k h n e = rw (next4 t first (x ∷ xs) (Item k h n) e, contents-false t (drop (n * 4) (x ∷ xs)))

contents-refused : (t first : Bool) (xs : List ℕ) (m p : ℕ) → 0 < length xs → frame_next t first xs ≡ Unframed m p
    → contents t first xs ≡ stopped m p xs
unfolding contents scale cut_by
contents-refused t first [] m p l e = absurd (omega arith)
contents-refused t first (x ∷ xs) m p l e = rw (next4 t first (x ∷ xs) (Unframed m p) e)

-- ---- the verdict on the items of a group from at to its end, by the table that is asked, where l more groups may be entered

unfoldable pub level : List ℕ → Bool → ℕ → Bool → ℕ → ℕ → Verdict
level s t l first at stop = shift (4 * at) (in_turn (judge_with t l) (contents t first (part s at stop)))

pub level-end : (s : List ℕ) (t : Bool) (l : ℕ) (first : Bool) (at : ℕ) → level s t l first at at ≡ Accepted
unfolding level in_turn shift contents
level-end s t l first at = rw (slice_empty (4 * at) s)

pub level-refused : (s : List ℕ) (t : Bool) (l : ℕ) (first : Bool) (at stop m p : ℕ) → 4 * stop ≤ length s → at < stop
    → frame_next t first (part s at stop) ≡ Unframed m p → level s t l first at stop ≡ Refused m (4 * at + p)
unfolding level in_turn shift
level-refused s t l first at stop m p long lt e =
    rw (contents-refused t first (part s at stop) m p (omega (arith, part_length s at stop long)) e)

pub level-item : (s : List ℕ) (t : Bool) (l : ℕ) (first : Bool) (at stop : ℕ) (k : Kind) (h n : ℕ) → 4 * stop ≤ length s → at ≤ stop
    → frame_next t first (part s at stop) ≡ Item k h n
    → level s t l first at stop
    ≡ and_then (shift (4 * at) (judge_kind k h (part s at (at + n)) (group l))) (level s t l false (at + n) stop)
unfolding level in_turn
level-item s t l first at stop k h n long le e =
    let f : frame_by t (part s at stop) ≡ Item k h n = any-item t first (part s at stop) k h n e in
    let b = item-sizes t (part s at stop) k h n f in
    let pl : length (part s at stop) ≡ 4 * stop - 4 * at = part_length s at stop long in
    let tl : length (take (n * 4) (part s at stop)) ≡ n * 4 = length-take-le (n * 4) (part s at stop) (omega arith) in
    let c : n * 4 ≡ 4 * n = omega arith in
    let o : 4 * at + 4 * n ≡ 4 * (at + n) = omega arith in
    rw (
      contents-item t first (part s at stop) k h n e,
      judge-own t l (part s at stop) k h n f,
      tl,
      shift-then,
      shift-shift,
      part-take s at n stop (omega arith),
      c,
      o,
      part-drop s at n stop,
    )

-- ---- items accepted whole

-- the item from a unit on ends in front of stop, has r units and is accepted, where l groups may be entered
pub record Taken (s : List ℕ) (t : Bool) (l : ℕ) (first : Bool) (at stop r : ℕ) : Type 0 where
  pub kind : Kind
  pub head : ℕ
  pub framed : frame_next t first (part s at stop) ≡ Item kind head r
  pub judged : judge_kind kind head (part s at (at + r)) (group l) ≡ Accepted

module _ (s : List ℕ) (t : Bool) (l : ℕ) (first : Bool) (at stop r : ℕ) (long : 4 * stop ≤ length s) (le : at ≤ stop)
    (w : Taken s t l first at stop r) where
  pub taken-sizes : (0 < r) × (at + r ≤ stop)
  taken-sizes =
      let b = item-sizes t (part s at stop) w.kind w.head r (any-item t first (part s at stop) w.kind w.head r w.framed) in
      (omega (arith, b.0, b.1), omega (arith, b.2, part_length s at stop long))

  -- it leaves the rest
  pub taken-level : level s t l first at stop ≡ level s t l false (at + r) stop
  unfolding and_then shift
  taken-level = level-item s t l first at stop w.kind w.head r long le w.framed ∙ rw w.judged
