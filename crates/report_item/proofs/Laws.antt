-- What the general way's steps say of a group's items, over either form. Assumes nothing.
use Prim.Native.Nat.{ℕ, ◌+◌, ◌-◌, ◌*◌, ◌/◌, ◌%◌, ◌≤◌, ◌<◌}
use mathlib.Core.Path.{◌≡◌, refl, sym, ap, ◌∙◌, subst}
use mathlib.Core.Bool.{Bool, true, false}
use mathlib.Core.List.{List}
use native.Mathlib.Omega.{arith}
use native.Mathlib.Nat.{mul_comm, mul-add, add-mul, add_assoc, mul-pos, le-div_iff_mul-le}
use mir.Syntax.{w64}
use mir.Val as val
use lib.ListN.{length, take, drop, length-drop}
use Rattle.format.specs.declared.Form.{Form}
use Rattle.format.specs.declared.Form.TheVariants.{Text, Binary}
use Rattle.format.specs.declared.Kind.{Kind}
use Rattle.format.specs.declared.Framed.{Framed}
use Rattle.format.specs.declared.Framed.TheVariants.{Item, Unframed}
use Rattle.format.specs.declared.Verdict.{Verdict}
use Rattle.format.specs.declared.Verdict.TheVariants.{Accepted, Refused}
use Rattle.format.specs.Units.{Domain, domain}
use Rattle.format.specs.Framing.{frame, frame_ruled, frame_next}
use Rattle.format.specs.Judging.{shift, judge, judge_kind, group, max_depth}
use Rattle.format.specs.Report.{placed, judge_in}
use Rattle.laws.specs.Domains.{Reader, reader}
use Rattle.laws.specs.Levels.{then-accepts, part, take-of-drop, any-item, item-sizes, frame-own, judge-own, level, level-end, level-item, Taken, taken-sizes, taken-level}
use Rattle.judging.specs.Own.{told_by}
use Rattle.report_next.specs.Next.{is_entered, is_ruled, holds_indexed, Own, Found}
use Rattle.report_next.proofs.Laws.{whole_plain, whole-entered, turn-inner}
use Rattle.report_found.specs.Limits.{longest}
use Rattle.report_found.specs.Finds.{Inside, Finds}
use Rattle.report_found.proofs.Laws.{wide, inside-units}
use Rattle.report_item.specs.Items.{Whole, Judges}

-- ---- the next item judged whole

module _ (s : List ℕ) (t : Bool) (l : ℕ) (first : Bool) (at stop : ℕ) (h : 4 * stop ≤ length s) (lt : at < stop) where
  taken-plain : (k : Kind) (a n : ℕ) → Own t first (part s at stop) l k a n → is_entered k ≡ false → Taken s t l first at stop n
  taken-plain k a n o e = record { kind = k; head = a; framed = o.framed; judged = whole_plain s t l first at stop h lt k a n o e }

  whole-refused : (f : Framed) → Found s t l first at stop f → (m p : ℕ) → f ≡ Unframed m p → Whole s t l first at stop f
  unfolding Whole
  whole-refused f F m p e = rw e (subst (Found s t l first at stop) e F)

  whole-passed : (f : Framed) → Found s t l first at stop f → (k : Kind) (a n : ℕ) → f ≡ Item k a n → is_entered k ≡ false
      → Whole s t l first at stop (Item k a n)
  unfolding Whole
  whole-passed f F k a n e q = taken-plain k a n (subst (Found s t l first at stop) e F) q

  pub taken-found : (f : Framed) → Found s t l first at stop f → (k : Kind) (a n : ℕ) → f ≡ Item k a n → is_entered k ≡ false → Taken s t l first at stop n
  taken-found f F k a n e q = taken-plain k a n (subst (Found s t l first at stop) e F) q

  pub taken-entered : (f : Framed) → Found s t l first at stop f → (k : Kind) (a n : ℕ) → f ≡ Item k a n → is_entered k ≡ true → (inner : Bool)
      → inner ≡ holds_indexed k → (marks : Bool) → marks ≡ is_ruled k → level s inner (l - 1) marks (at + a) (at + n) ≡ Accepted → Taken s t l first at stop n
  taken-entered f F k a n e q inner y marks z w =
      let o = subst (Found s t l first at stop) e F in
      record { kind = k; head = a; framed = o.framed; judged = whole-entered s t l first at stop h lt k a n o q (rw (y, z) at (sym w)) }

  whole-told : (f : Framed) → Found s t l first at stop f → (k : Kind) (a n : ℕ) → f ≡ Item k a n → is_entered k ≡ true → (inner : Bool)
      → inner ≡ holds_indexed k → (marks : Bool) → marks ≡ is_ruled k → (v : Verdict) → v ≡ level s inner (l - 1) marks (at + a) (at + n) → (r : Framed) → r ≡ told_by (Item k a n) v
      → Whole s t l first at stop r
  unfolding told_by Whole
  whole-told f F k a n e q inner y marks z Accepted w r u = rw u (taken-entered f F k a n e q inner y marks z (sym w))
  whole-told f F k a n e q inner y marks z (Refused m p) w r u =
      rw u (turn-inner s t l first at stop h lt k a n (subst (Found s t l first at stop) e F) q (Refused m p) (rw (y, z) at w) m p refl)

-- ---- a place

placed-shift : (u a : ℕ) (v : Verdict) → placed u (shift (4 * a) v) ≡ shift (a * u) (placed u v)
unfolding placed shift
placed-shift u a Accepted = refl
placed-shift u a (Refused n p) =
    let x : (4 * a + p) / 4 ≡ a + p / 4 = omega arith in
    let y : (4 * a + p) % 4 ≡ p % 4 = omega arith in
    rw (x, y) (ap (Refused n) (ap (λ (z : ℕ). z + p % 4) (add-mul a (p / 4) u) ∙ add_assoc (a * u) (p / 4 * u) (p % 4)))

pub placed-fits : (f : Form) (u p : ℕ) → u ≡ (domain f).unit → (u ≤ 4) × (p / 4 * u ≤ p / 4 * 4)
placed-fits Text u p e = rw e (omega arith, omega arith)
placed-fits Binary u p e = rw e (omega arith, omega arith)

pub placed-good : (u : ℕ) (v : Verdict) → v ≡ Accepted → v ≡ placed u v
unfolding placed
placed-good u v e = rw e

pub placed-bad : (u w : ℕ) (v : Verdict) (m p : ℕ) → w ≡ u → v ≡ Refused m p → Refused m (p / 4 * w + p % 4) ≡ placed u v
unfolding placed
placed-bad u w v m p q e = rw (e, q)

-- ---- a group's items up to a unit are accepted: what is left says all

pub record Left (s : List ℕ) (t : Bool) (l : ℕ) (first : Bool) (at stop : ℕ) (ruled : Bool) (i : ℕ) : Type 0 where
  pub inside : i ≤ stop
  pub leaves : level s t l first at stop ≡ level s t l ruled i stop

module _ (s : List ℕ) (t : Bool) (l : ℕ) (first : Bool) (at stop : ℕ) where
  pub left-start : at ≤ stop → Left s t l first at stop first at
  left-start h = record { inside = h; leaves = refl }

  module _ (ruled : Bool) (i : ℕ) (w : Left s t l first at stop ruled i) where
    pub left-more : (r : ℕ) → 4 * stop ≤ length s → Taken s t l ruled i stop r → Left s t l first at stop false (i + r)
    left-more r h w' =
        record { inside = (taken-sizes s t l ruled i stop r h w.inside w').1; leaves = w.leaves ∙ taken-level s t l ruled i stop r h w.inside w' }

    left-refused : (m p : ℕ) → Refused m p ≡ level s t l ruled i stop → Refused m p ≡ level s t l first at stop
    left-refused m p e = e ∙ sym w.leaves

    pub left_end : stop ≤ i → Accepted ≡ level s t l first at stop
    left_end h =
        let z : i ≡ stop = omega (arith, w.inside) in
        sym (w.leaves ∙ rw z (level-end s t l ruled stop))

-- the next item judged whole
module _ (f : Form) (s : List ℕ) (t : Bool) (l : ℕ) (first : Bool) (at stop : ℕ) (g : Framed) (F : Finds f s t l first at stop g)
    (I : Inside (domain f) s at stop) (lt : at < stop) where
  pub by-refused : (m p : ℕ) → g ≡ Unframed m p → Whole ((domain f).sextets s) t l first at stop g
  by-refused m p e = whole-refused ((domain f).sextets s) t l first at stop (wide f s t l first at stop I) lt g (F.right I lt) m p e

  pub by-own : (k : Kind) (a n : ℕ) → g ≡ Item k a n → (b : Bool) → b ≡ is_entered k → b ≡ false
      → Whole ((domain f).sextets s) t l first at stop (Item k a n)
  by-own k a n e b is y =
      whole-passed ((domain f).sextets s) t l first at stop (wide f s t l first at stop I) lt g (F.right I lt) k a n e (sym is ∙ y)

  pub by-contents : (k : Kind) (a n : ℕ) → g ≡ Item k a n → (b : Bool) → b ≡ is_entered k → b ≡ true → (inner : Bool) → inner ≡ holds_indexed k
      → (marks : Bool) → marks ≡ is_ruled k → (v : Verdict)
      → v ≡ level ((domain f).sextets s) inner (l - 1) marks (at + a) (at + n) → (r : Framed) → r ≡ told_by (Item k a n) v
      → Whole ((domain f).sextets s) t l first at stop r
  by-contents k a n e b is y inner x marks z v w r q =
      whole-told ((domain f).sextets s) t l first at stop (wide f s t l first at stop I) lt g (F.right I lt) k a n e (sym is ∙ y) inner x marks z v w r q

-- a turn of the loop over a group's items
module _ (f : Form) (s : List ℕ) (t : Bool) (l : ℕ) (first : Bool) (at stop : ℕ) (ruled : Bool) (i : ℕ)
    (w : Left ((domain f).sextets s) t l first at stop ruled i) (g : Framed)
    (W : Whole ((domain f).sextets s) t l ruled i stop g) where
  pub left-stop : (m p : ℕ) → g ≡ Unframed m p → Refused m p ≡ level ((domain f).sextets s) t l first at stop
  unfolding Whole
  left-stop m p e =
      left-refused ((domain f).sextets s) t l first at stop ruled i w m p (subst (Whole ((domain f).sextets s) t l ruled i stop) e W)

  module _ (I : Inside (domain f) s at stop) (k : Kind) (a n : ℕ) (e : g ≡ Item k a n) where
    taken_here : Taken ((domain f).sextets s) t l ruled i stop n
    unfolding Whole
    taken_here = subst (Whole ((domain f).sextets s) t l ruled i stop) e W

    sizes : (0 < n) × (i + n ≤ stop)
    sizes = taken-sizes ((domain f).sextets s) t l ruled i stop n (wide f s t l first at stop I) w.inside taken_here

    pub next_fits : val.Fits w64 stop → val.Fits w64 (i + n)
    next_fits h = omega (arith, sizes.1)

    pub less-left : i < stop → stop - (i + n) < stop - i
    less-left h = omega (arith, sizes.0)

    pub left-on : Left ((domain f).sextets s) t l first at stop false (i + n)
    left-on = left-more ((domain f).sextets s) t l first at stop ruled i w n (wide f s t l first at stop I) taken_here

-- ---- a framed item

module _ (d : Domain) (G : Reader d) (xs : List ℕ) (a n : ℕ) (k : Kind) (h : ℕ) (e : frame_ruled (d.sextets (drop (d.unit * a) xs)) ≡ Item k h n) where
  of-frame : frame (d.sextets (drop (d.unit * a) xs)) ≡ Item k h n
  unfolding frame_ruled frame_next
  of-frame = any-item false true (d.sextets (drop (d.unit * a) xs)) k h n e

  pub framed-room : (0 < n) × (d.unit * a + d.unit * n ≤ length xs)
  framed-room =
      let b = item-sizes false (d.sextets (drop (d.unit * a) xs)) k h n of-frame in
      let c : n ≤ length (drop (d.unit * a) xs) / d.unit = rw (← (G.units (drop (d.unit * a) xs))) b.2 in
      let m : n * d.unit ≤ length (drop (d.unit * a) xs) = (le-div_iff_mul-le G.pos).0 c in
      let p : 0 < n * d.unit = mul-pos (omega (arith, b.0, b.1)) G.pos in
      (omega (arith, b.0, b.1), omega (arith, length-drop (d.unit * a) xs, mul_comm n d.unit))

  pub framed-units : a + n ≤ length xs / d.unit
  framed-units = (le-div_iff_mul-le G.pos).1 (rw (mul_comm (a + n) d.unit, mul-add d.unit a n) framed-room.1)

  -- its own sextets are a part of the stream's
  own-sextets : d.sextets (take (d.unit * n) (drop (d.unit * a) xs)) ≡ part (d.sextets xs) a (a + n)
  own-sextets =
      let room = framed-room in
      let u : d.unit * a ≡ a * d.unit = mul_comm d.unit a in
      let v : d.unit * n ≡ n * d.unit = mul_comm d.unit n in
      let z : a * 4 + n * 4 ≡ 4 * (a + n) = omega arith in
      let y : a * 4 ≡ 4 * a = omega arith in
      rw (u, v)
      (G.taken (drop (a * d.unit) xs) n (omega (arith, length-drop (a * d.unit) xs))
      ∙ ap (take (n * 4)) (G.dropped xs a (omega arith))
      ∙ take-of-drop (n * 4) (a * 4) (d.sextets xs)
      ∙ rw (z, y))

  own-taken : d.sextets (take (d.unit * n) (drop (d.unit * a) xs)) ≡ take (n * 4) (d.sextets (drop (d.unit * a) xs))
  own-taken =
      let room = framed-room in
      let v : d.unit * n ≡ n * d.unit = mul_comm d.unit n in
      rw v (G.taken (drop (d.unit * a) xs) n (omega (arith, length-drop (d.unit * a) xs)))

  pub level-of-item : (l : ℕ) → level (d.sextets xs) false l false a (a + n) ≡ shift (4 * a) (judge l (d.sextets (take (d.unit * n) (drop (d.unit * a) xs))))
  unfolding frame_next
  level-of-item l =
      let s : List ℕ = d.sextets xs in
      let x : List ℕ = d.sextets (drop (d.unit * a) xs) in
      let p : part s a (a + n) ≡ take (n * 4) x = sym own-sextets ∙ own-taken in
      let o : frame (part s a (a + n)) ≡ Item k h n = rw p (frame-own false x k h n of-frame) in
      level-item s false l false a (a + n) k h n (omega (arith, framed-units, G.units xs)) (omega arith) o
      ∙ rw (level-end s false l false (a + n), then-accepts, p, ← (judge-own false l x k h n of-frame), ← own-taken)

  -- accepted whole, its own bytes are
  pub judged-good : judge_kind k h (part (d.sextets xs) a (a + n)) (group max_depth) ≡ Accepted
      → Accepted ≡ shift (d.unit * a) (judge_in d (take (d.unit * n) (drop (d.unit * a) xs)))
  unfolding judge_in placed shift
  judged-good g =
      let x : List ℕ = d.sextets (drop (d.unit * a) xs) in
      let w : judge_kind k h (take (n * 4) x) (group max_depth) ≡ Accepted = rw (sym own-sextets ∙ own-taken) at g in
      rw (own-taken, judge-own false max_depth x k h n of-frame, w)

  -- its verdict, with the place in the stream's elements
  pub judged-row : (v : Verdict) → v ≡ level (d.sextets xs) false max_depth false a (a + n)
      → placed d.unit v ≡ shift (d.unit * a) (judge_in d (take (d.unit * n) (drop (d.unit * a) xs)))
  unfolding judge_in
  judged-row v q = rw (q, level-of-item max_depth, mul_comm d.unit a) (placed-shift d.unit a _)

pub judged : (f : Form) (s : List ℕ) (at n : ℕ) (v w : Verdict) → v ≡ level ((domain f).sextets s) false max_depth false at (at + n) → w ≡ placed (domain f).unit v
    → Judges (domain f) s at n w
judged f s at n v w e q = record { judged = λ few k h i. q ∙ judged-row (domain f) (reader f) s at n k h i v e }

-- what is no item of so many units there
module _ (f : Form) (s : List ℕ) (at n u : ℕ) (w : Verdict) where
  pub over-limit : u ≡ longest → u < length s → Judges (domain f) s at n w
  over-limit e l = record { judged = λ few k h i. absurd (omega arith) }

  pub behind-all : u ≡ length s / (domain f).unit → u < at → Judges (domain f) s at n w
  behind-all e l = record { judged = λ few k h i. absurd (omega (arith, framed-units (domain f) (reader f) s at n k h i)) }

  pub more-than-all : u ≡ length s / (domain f).unit → u - at < n → Judges (domain f) s at n w
  more-than-all e l = record { judged = λ few k h i. absurd (omega (arith, framed-units (domain f) (reader f) s at n k h i)) }

pub inside-item : (f : Form) (s : List ℕ) (at size u m : ℕ) → size ≤ u - at → at ≤ u → length s ≤ m → u ≡ length s / (domain f).unit
    → m ≡ longest
    → Inside (domain f) s at (at + size)
inside-item f s at size u m h g few e q = inside-units f s at (at + size) u m e q (omega arith) few (omega arith)
