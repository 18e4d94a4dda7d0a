-- The contents of a group, a turn of the loop at a time. Assumes nothing.
use mathlib.Core.Path.{◌≡◌, refl, sym, ap, ◌∙◌, subst}
use mathlib.Core.Bool.{Bool, true, false}
use mathlib.Core.List.{List, [], ◌∷◌}
use Prim.Native.Nat.{ℕ, zero, suc, ◌+◌, ◌-◌, ◌*◌, ◌/◌, ◌<◌, ◌≤◌}
use native.Mathlib.Omega.{arith}
use lib.ListN.{length, take, drop, length-take, length-map}
use Rattle.base.specs.Lists.{map-take, map-drop}
use Rattle.format.specs.declared.CodeRow.{CodeRow}
use Rattle.format.specs.declared.Kind.{Kind}
use Rattle.format.specs.declared.Kind.TheVariants.{Fixed, Variable, Group, Genus, Indexed}
use Rattle.format.specs.declared.Framed.{Framed}
use Rattle.format.specs.declared.Framed.TheVariants.{Item, Unframed}
use Rattle.format.specs.declared.Verdict.{Verdict}
use Rattle.format.specs.declared.Verdict.TheVariants.{Accepted, Refused}
use Rattle.format.specs.Alphabet.{sextet_of}
use Rattle.base.specs.Each.{length-each}
use Rattle.format.specs.Units.{sextets_of, text_sextets, binary_sextets}
use Rattle.laws.specs.Units.{sextets-size}
use Rattle.format.specs.Registry.{opening_by, is_indexed, is_overrideable}
use Rattle.format.specs.Framing.{frame_with, frame_next, sextet}
use Rattle.format.specs.Judging.{shift, and_then, in_turn, contents, judge_kind, own_check, group, judge_with}
use Rattle.laws.specs.Framing.{Lawful}
use Rattle.laws.specs.Domains.{binary-reader}
use Rattle.laws.specs.Levels.{shift-accepted, then-accepts, part, part_length, part-drop, part-take, take-of-drop, any-item, item-sizes, shift-shift, level, level-end, level-refused, level-item}
use Rattle.framing.proofs.Laws.{lawful}
use Rattle.judging.specs.Own.{told_by}
use Rattle.judging.proofs.Bounds.{Head, next-head, Near, own-near}
use Rattle.report_next.specs.Next.{own_of, next_own, is_entered, is_ruled, holds_indexed, Own, Found}

-- ---- the next item

next-good : (t first : Bool) (x : List ℕ) (k : Kind) (h n : ℕ) → frame_next t first x ≡ Item k h n → Lawful (frame_with (opening_by t)) (sextet x) (length x / 4) k h n
next-good t first x k h n e = lawful t x _ k h n refl (any-item t first x k h n e)

pub next-lawful : (t first : Bool) (x : List ℕ) (f : Framed) (k : Kind) (h n : ℕ) → f ≡ frame_next t first x → f ≡ Item k h n
    → Lawful (frame_with (opening_by t)) (sextet x) (length x / 4) k h n
next-lawful t first x f k h n e p = next-good t first x k h n (sym e ∙ p)

module _ (t first : Bool) (x : List ℕ) (l : ℕ) (f : Framed) (e : f ≡ frame_next t first x) where
  pub next-unframed : (m p : ℕ) → f ≡ Unframed m p → f ≡ next_own t first x l
  unfolding next_own own_of
  next-unframed m p q = rw (← e, q)

  pub next-told : (k : Kind) (h n : ℕ) → f ≡ Item k h n → (v : Verdict) → v ≡ judge_kind k h (take (4 * n) x) (own_check l) → (r : Framed)
      → r ≡ told_by (Item k h n) v → r ≡ next_own t first x l
  unfolding next_own own_of
  next-told k h n q v w r u = rw (← e, q, ← w) u

-- ---- what it says of the contents

told-item : (k' : Kind) (h' n' : ℕ) (v : Verdict) (k : Kind) (h n : ℕ) → told_by (Item k' h' n') v ≡ Item k h n → (Item k' h' n' ≡ Item k h n) × (v ≡ Accepted)
unfolding told_by
told-item k' h' n' Accepted k h n e = (e, refl)
told-item k' h' n' (Refused m p) k h n e = let z : ◌≡◌ {A = ℕ} 0 1 = cc in absurd (omega arith)

own-by : (f : Framed) (x : List ℕ) (l : ℕ) (k : Kind) (h n : ℕ) → own_of f x l ≡ Item k h n
    → (f ≡ Item k h n) × (judge_kind k h (take (4 * n) x) (own_check l) ≡ Accepted)
unfolding own_of
own-by (Unframed m p) x l k h n e = let z : ◌≡◌ {A = ℕ} 0 1 = cc in absurd (omega arith)
own-by (Item k' h' n') x l k h n e =
    let t = told-item k' h' n' _ k h n e in
    let a : k' ≡ k = cc in
    let b : h' ≡ h = cc in
    let d : n' ≡ n = cc in
    (t.0, rw (a, b, d) at t.1)

pub own-item : (t first : Bool) (x : List ℕ) (l : ℕ) (k : Kind) (h n : ℕ) → next_own t first x l ≡ Item k h n → Own t first x l k h n
unfolding next_own
own-item t first x l k h n e = let o = own-by (frame_next t first x) x l k h n e in record { framed = o.0; accepted = o.1 }

told-refused : (k : Kind) (h n : ℕ) (v : Verdict) (m p : ℕ) → told_by (Item k h n) v ≡ Unframed m p → v ≡ Refused m p
unfolding told_by
told-refused k h n Accepted m p e = let z : ◌≡◌ {A = ℕ} 0 1 = cc in absurd (omega arith)
told-refused k h n (Refused m' p') m p e = cc

-- ---- a group's own check comes first

-- what a group's items say, where it is entered
abbrev inside_of : Kind → ℕ → List ℕ → ℕ → Verdict
inside_of (Fixed c) h s l = Accepted
inside_of (Variable t a b) h s l = Accepted
inside_of (Group letter) h s zero = Accepted
inside_of (Group letter) h s (suc l) =
    shift (4 * h) (in_turn (judge_with (is_indexed letter) l) (contents (is_indexed letter) (is_overrideable letter) (drop (4 * h) s)))
inside_of Genus h s l = Accepted
inside_of (Indexed c) h s l = Accepted

own_first : (k : Kind) (h l : ℕ) (s : List ℕ) → judge_kind k h s (group l) ≡ and_then (judge_kind k h s (own_check l)) (inside_of k h s l)
unfolding judge_kind group judge_with
own_first (Fixed c) h l s = sym (then-accepts _)
own_first (Variable t a b) h l s = sym (then-accepts _)
own_first (Group letter) h zero s = sym (then-accepts _)
own_first (Group letter) h (suc l) s = refl
own_first Genus h l s = sym (then-accepts _)
own_first (Indexed c) h l s = sym (then-accepts _)

-- ---- a turn

module _ (s : List ℕ) (t : Bool) (l : ℕ) (first : Bool) (at stop : ℕ) (long : 4 * stop ≤ length s) (lt : at < stop) where
  own-part : (n : ℕ) → at + n ≤ stop → take (4 * n) (part s at stop) ≡ part s at (at + n)
  own-part n b = let c : 4 * n ≡ n * 4 = omega arith in rw c (part-take s at n stop b)

  pub fits : (k : Kind) (h n : ℕ) → frame_next t first (part s at stop) ≡ Item k h n → (0 < h) × (h ≤ n) × (at + n ≤ stop)
  fits k h n e =
      let b = item-sizes t (part s at stop) k h n (any-item t first (part s at stop) k h n e) in
      (b.0, b.1, omega (arith, b.2, part_length s at stop long))

  refused-by : (f : Framed) (m p : ℕ) → frame_next t first (part s at stop) ≡ f → own_of f (part s at stop) l ≡ Unframed m p
      → Refused m (4 * at + p) ≡ level s t l first at stop
  unfolding own_of and_then shift
  refused-by (Unframed m' p') m p e q =
      let a : m' ≡ m = cc in
      let b : p' ≡ p = cc in
      sym (level-refused s t l first at stop m p long lt (rw (a, b) at e))
  refused-by (Item k h n) m p e q =
      let v = told-refused k h n _ m p q in
      let z = fits k h n e in
      let w : judge_kind k h (part s at (at + n)) (own_check l) ≡ Refused m p = rw (own-part n z.2) at v in
      sym (level-item s t l first at stop k h n long (omega arith) e ∙ rw (own_first k h l (part s at (at + n)), w))

  -- a refusal of the next item is the first of all
  pub turn-refused : (m p : ℕ) → next_own t first (part s at stop) l ≡ Unframed m p → Refused m (4 * at + p) ≡ level s t l first at stop
  unfolding next_own
  turn-refused m p e = refused-by (frame_next t first (part s at stop)) m p refl e

  module _ (k : Kind) (h n : ℕ) (o : Own t first (part s at stop) l k h n) where
    pub turn : level s t l first at stop ≡ and_then (shift (4 * at) (inside_of k h (part s at (at + n)) l)) (level s t l false (at + n) stop)
    unfolding and_then
    turn =
        let z = fits k h n o.framed in
        let w : judge_kind k h (part s at (at + n)) (own_check l) ≡ Accepted = rw (own-part n z.2) at o.accepted in
        level-item s t l first at stop k h n long (omega arith) o.framed ∙ rw (own_first k h l (part s at (at + n)), w)

outside : (k : Kind) (h : ℕ) (s : List ℕ) (l : ℕ) → is_entered k ≡ false → inside_of k h s l ≡ Accepted
unfolding is_entered
outside (Fixed c) h s l e = refl
outside (Variable t a b) h s l e = refl
outside (Group letter) h s l e = absurd (let y : ◌≡◌ {A = ℕ} 0 1 = cc in omega arith)
outside Genus h s l e = refl
outside (Indexed c) h s l e = refl

-- an entered group may be entered
pub may-enter : (k : Kind) (h : ℕ) (s : List ℕ) (l : ℕ) → is_entered k ≡ true → judge_kind k h s (own_check l) ≡ Accepted → 0 < l
unfolding is_entered judge_kind own_check
may-enter (Fixed c) h s l e a = absurd (let y : ◌≡◌ {A = ℕ} 0 1 = cc in omega arith)
may-enter (Variable t x b) h s l e a = absurd (let y : ◌≡◌ {A = ℕ} 0 1 = cc in omega arith)
may-enter (Group letter) h s zero e a = absurd (let y : ◌≡◌ {A = ℕ} 0 1 = cc in omega arith)
may-enter (Group letter) h s (suc l) e a = omega arith
may-enter (Indexed c) h s l e a = absurd (let y : ◌≡◌ {A = ℕ} 0 1 = cc in omega arith)
may-enter Genus h s l e a = absurd (let y : ◌≡◌ {A = ℕ} 0 1 = cc in omega arith)

inside-level : (s : List ℕ) (k : Kind) (at h n l : ℕ) → is_entered k ≡ true → 0 < l
    → shift (4 * at) (inside_of k h (part s at (at + n)) l) ≡ level s (holds_indexed k) (l - 1) (is_ruled k) (at + h) (at + n)
unfolding is_entered is_ruled holds_indexed level
inside-level s (Fixed c) at h n l e p = absurd (let y : ◌≡◌ {A = ℕ} 0 1 = cc in omega arith)
inside-level s (Variable t x b) at h n l e p = absurd (let y : ◌≡◌ {A = ℕ} 0 1 = cc in omega arith)
inside-level s (Group letter) at h n zero e p = absurd (omega arith)
inside-level s (Group letter) at h n (suc l) e p =
    let z : suc l - 1 ≡ l = omega arith in
    let y : 4 * at + 4 * h ≡ 4 * (at + h) = omega arith in
    rw (z, shift-shift, y, part-drop s at h (at + n))
inside-level s (Indexed c) at h n l e p = absurd (let y : ◌≡◌ {A = ℕ} 0 1 = cc in omega arith)
inside-level s Genus at h n l e p = absurd (let y : ◌≡◌ {A = ℕ} 0 1 = cc in omega arith)

module _ (s : List ℕ) (t : Bool) (l : ℕ) (first : Bool) (at stop : ℕ) (long : 4 * stop ≤ length s) (lt : at < stop)
    (k : Kind) (h n : ℕ) (o : Own t first (part s at stop) l k h n) where
  pub enters : is_entered k ≡ true → 0 < l
  enters e = may-enter k h _ l e o.accepted

  turn_in : is_entered k ≡ true → level s t l first at stop ≡ and_then (level s (holds_indexed k) (l - 1) (is_ruled k) (at + h) (at + n)) (level s t l false (at + n) stop)
  turn_in e = turn s t l first at stop long lt k h n o ∙ rw (inside-level s k at h n l e (enters e))

  -- an entered group's refusal is the first
  pub turn-inner : is_entered k ≡ true → (v : Verdict) → v ≡ level s (holds_indexed k) (l - 1) (is_ruled k) (at + h) (at + n) → (m p : ℕ) → v ≡ Refused m p → v ≡ level s t l first at stop
  unfolding and_then
  turn-inner e v w m p q =
      let t : level s t l first at stop ≡ Refused m p = turn_in e ∙ rw (← w, q) in
      q ∙ sym t

  -- and the item itself is accepted whole
  whole : inside_of k h (part s at (at + n)) l ≡ Accepted → judge_kind k h (part s at (at + n)) (group l) ≡ Accepted
  unfolding and_then
  whole e =
      let z = fits s t l first at stop long lt k h n o.framed in
      let w : judge_kind k h (part s at (at + n)) (own_check l) ≡ Accepted = rw (own-part s t l first at stop long lt n z.2) at o.accepted in
      own_first k h l (part s at (at + n)) ∙ rw (w, e)

  pub whole_plain : is_entered k ≡ false → judge_kind k h (part s at (at + n)) (group l) ≡ Accepted
  whole_plain e = whole (outside k h (part s at (at + n)) l e)

  pub whole-entered : is_entered k ≡ true → Accepted ≡ level s (holds_indexed k) (l - 1) (is_ruled k) (at + h) (at + n) → judge_kind k h (part s at (at + n)) (group l) ≡ Accepted
  whole-entered e w = whole (shift-accepted (4 * at) _ (inside-level s k at h n l e (enters e) ∙ sym w))

-- ---- places

near_by : (f : Framed) (t first : Bool) (x : List ℕ) (l m p : ℕ) → frame_next t first x ≡ f → own_of f x l ≡ Unframed m p → p ≤ length x + 8
unfolding own_of
near_by (Unframed m' p') t first x l m p e q =
    let b : p ≡ p' = cc in
    let c : p' ≤ 7 = subst (Head (sextet x)) e (next-head t first x) in
    omega arith
near_by (Item k h n) t first x l m p e q =
    let v = told-refused k h n _ m p q in
    let g = next-good t first x k h n e in
    let c : p ≤ length (take (4 * n) x) + 8 = subst (Near (length (take (4 * n) x) + 8)) v (own-near k h l (take (4 * n) x) g.few) in
    omega (arith, length-take (4 * n) x)

pub next-near : (t first : Bool) (x : List ℕ) (l m p : ℕ) → next_own t first x l ≡ Unframed m p → p ≤ length x + 8
unfolding next_own
next-near t first x l m p e = near_by (frame_next t first x) t first x l m p refl e

-- ---- a part that is lent

pub length-sextets : (s : List ℕ) → length (text_sextets s) ≡ length s
unfolding text_sextets
length-sextets s = length-map s sextet_of

pub text-part : (s : List ℕ) (at stop : ℕ) → at ≤ stop → text_sextets (take (4 * stop - 4 * at) (drop (4 * at) s)) ≡ part (text_sextets s) at stop
unfolding text_sextets
text-part s at stop h =
    let z : 4 * at + (4 * stop - 4 * at) ≡ 4 * stop = omega arith in
    rw (take-of-drop (4 * stop - 4 * at) (4 * at) s, z, map-drop sextet_of (4 * at) (take (4 * stop) s), map-take sextet_of (4 * stop) s)

pub length-binary : (s : List ℕ) → length (binary_sextets s) ≡ 4 * (length s / 3)
unfolding binary_sextets
length-binary s = length-each 3 4 sextets_of sextets-size (length s / 3) s

pub binary-part : (s : List ℕ) (at stop : ℕ) → at ≤ stop → 3 * stop ≤ length s
    → binary_sextets (take (3 * stop - 3 * at) (drop (3 * at) s)) ≡ part (binary_sextets s) at stop
binary-part s at stop h r =
    let z : 3 * at + (3 * stop - 3 * at) ≡ stop * 3 = omega arith in
    let y : 3 * at ≡ at * 3 = omega arith in
    let a : 4 * at ≡ at * 4 = omega arith in
    let b : 4 * stop ≡ stop * 4 = omega arith in
    rw (take-of-drop (3 * stop - 3 * at) (3 * at) s, z, y, binary-reader.dropped (take (stop * 3) s) at (omega (arith, length-take (stop * 3) s)), binary-reader.taken s stop (omega arith), a, b)

-- ---- an item found

pub found-refused : (s : List ℕ) (t : Bool) (l : ℕ) (first : Bool) (at stop : ℕ) → 4 * stop ≤ length s → at < stop → (m p : ℕ)
    → next_own t first (part s at stop) l ≡ Unframed m p → Found s t l first at stop (Unframed m (4 * at + p))
found-refused s t l first at stop long lt m p e = turn-refused s t l first at stop long lt m p e

pub found-item : (s : List ℕ) (t : Bool) (l : ℕ) (first : Bool) (at stop : ℕ) (k : Kind) (h n : ℕ) → next_own t first (part s at stop) l ≡ Item k h n
    → Found s t l first at stop (Item k h n)
found-item s t l first at stop k h n e = own-item t first (part s at stop) l k h n e
