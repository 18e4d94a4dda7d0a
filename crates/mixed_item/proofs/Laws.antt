-- The verdict on an item of a mixed stream, one law for each way through the code. Assumes nothing.
use Prim.Native.Nat.{ℕ, ◌+◌, ◌-◌, ◌*◌, ◌/◌, ◌≤◌, ◌<◌}
use mathlib.Core.Path.{◌≡◌, sym, ap, ◌∙◌, subst}
use mathlib.Core.List.{List}
use native.Mathlib.Omega.{arith}
use native.Mathlib.Nat.{mul_comm}
use lib.ListN.{length, take, drop, length-take, length-drop}
use lib.Seq.{take-length}
use Rattle.format.specs.declared.Form.{Form}
use Rattle.format.specs.declared.Form.TheVariants.{Text, Binary}
use Rattle.format.specs.declared.Kind.{Kind}
use Rattle.format.specs.declared.Framed.TheVariants.{Item}
use Rattle.format.specs.declared.Verdict.{Verdict}
use Rattle.format.specs.declared.Verdict.TheVariants.{Accepted, Refused}
use Rattle.format.specs.Units.{domain}
use Rattle.format.specs.Framing.{frame_ruled}
use Rattle.format.specs.Judging.{shift}
use Rattle.format.specs.Report.{frame_in, judge_in}
use Rattle.damage.proofs.Cuts.{frame-take}
use Rattle.damage.proofs.Damage.{shift_zero}
use Rattle.laws.specs.Framing.{unscale}
use Rattle.judging.proofs.Bounds.{Near}
use Rattle.report_found.specs.Limits.{longest}
use Rattle.report_item.specs.Items as I
use Rattle.mixed.specs.declared.Start.{Start}
use Rattle.mixed.specs.declared.Start.TheVariants.{Cesr, Json, Other}
use Rattle.mixed.specs.Mixed.{start_at, frame_mixed, judge_start, judge_mixed}
use Rattle.mixed_laws.specs.Frames.{frames-mixed, cesr-frame, cesr-judge}
use Rattle.mixed_item.specs.Items.{Own, Judges, farthest}
use Rattle.mixed_item.proofs.Places.{judged-near}

-- ---- own bytes

-- units and elements
units_of : (f : Form) (len n : ℕ) → len ≡ n * (domain f).unit → n ≡ len / (domain f).unit
units_of Text len n e = omega arith
units_of Binary len n e = omega arith

-- bytes that are one item of a form, framed from the first unit on, in units
own-frame : (f : Form) (xs : List ℕ) (k : Kind) (h : ℕ) → frame_in (domain f) xs ≡ Item k h (length xs) → (n : ℕ) → n ≡ length xs / (domain f).unit
    → (h' : ℕ) × (frame_ruled ((domain f).sextets (drop ((domain f).unit * 0) xs)) ≡ Item k h' n) × ((domain f).unit * n ≡ length xs)
unfolding frame_in
own-frame f xs k h i n e =
    let u = unscale (domain f).unit (frame_ruled ((domain f).sextets xs)) i in
    let z : (domain f).unit * 0 ≡ 0 = omega arith in
    let m : n ≡ u.1 = e ∙ sym (units_of f (length xs) u.1 u.4) in
    (u.0, rw (z, m) u.2, mul_comm (domain f).unit n ∙ ap (λ (j : ℕ). j * (domain f).unit) m ∙ sym u.4)

-- a verdict counted on from the start is the bytes' own
from_start : (f : Form) (xs : List ℕ) (n : ℕ) → (domain f).unit * n ≡ length xs
    → shift ((domain f).unit * 0) (judge_in (domain f) (take ((domain f).unit * n) (drop ((domain f).unit * 0) xs))) ≡ judge_in (domain f) xs
from_start f xs n e =
    let z : (domain f).unit * 0 ≡ 0 = omega arith in
    rw (z, e, take-length xs) (shift_zero (judge_in (domain f) xs))

module _ (xs : List ℕ) (t : Start) (e : t ≡ start_at xs 0) where
  pub own-cesr : (f : Form) → t ≡ Cesr f → (n : ℕ) → n ≡ length xs / (domain f).unit → (v : Verdict) → I.Judges (domain f) xs 0 n v → Own xs v
  own-cesr f q n un v J = record {
    right = λ few k h i.
        let s : start_at xs 0 ≡ Cesr f = sym e ∙ q in
        let o = own-frame f xs k h (sym (cesr-frame xs f s) ∙ i) n un in
        J.judged few k o.0 o.1 ∙ from_start f xs n o.2 ∙ sym (cesr-judge xs f s);
  }

  pub own-json : t ≡ Json → Own xs Accepted
  unfolding judge_mixed judge_start
  own-json q = record { right = λ few k h i. rw (sym e ∙ q) }

  pub own-other : t ≡ Other → Own xs Accepted
  unfolding judge_mixed judge_start
  own-other q = record { right = λ few k h i. rw (sym e ∙ q) }

-- ---- a place counted on

module _ (v : Verdict) (by : ℕ) where
  pub moved-accepted : v ≡ Accepted → ((m p : ℕ) → v ≡ Refused m p → p ≤ farthest) → v ≡ shift by v
  unfolding shift
  moved-accepted e n = rw e

  module _ (m p : ℕ) (e : v ≡ Refused m p) where
    pub moved-far : farthest < p → ((m p : ℕ) → v ≡ Refused m p → p ≤ farthest) → Refused m p ≡ shift by v
    moved-far h n = absurd (omega (arith, n m p e))

    pub moved_on : ((m p : ℕ) → v ≡ Refused m p → p ≤ farthest) → Refused m (by + p) ≡ shift by v
    unfolding shift
    moved_on n = rw e

-- ---- where it stands

near-place : (v : Verdict) → Near farthest v → (m p : ℕ) → v ≡ Refused m p → p ≤ farthest
near-place v n m p e = subst (Near farthest) e n

near-start : (t : Start) (xs : List ℕ) → length xs ≤ longest → Near farthest (judge_start t xs)
unfolding judge_start
near-start (Cesr f) xs l = judged-near f xs l
near-start Json xs l = tt
near-start Other xs l = tt

near-mixed : (xs : List ℕ) → length xs ≤ longest → Near farthest (judge_mixed xs)
unfolding judge_mixed
near-mixed xs l = near-start (start_at xs 0) xs l

module _ (s : List ℕ) (at n : ℕ) (v : Verdict) where
  pub judged : at ≤ length s → n ≤ length s - at → (w : Verdict) → Own (take (at + n - at) (drop at s)) w
      → (((m p : ℕ) → w ≡ Refused m p → p ≤ farthest) → v ≡ shift at w) → Judges s at n v
  judged la ln w O m = record {
    right = λ few k h i.
        let z : at + n - at ≡ n = omega arith in
        let own : List ℕ = take n (drop at s) in
        let len : length own ≡ n = omega (arith, length-take n (drop at s), length-drop at s) in
        let f : frame_mixed own ≡ Item k h (length own) = frame-take frame_mixed frames-mixed (drop at s) i ∙ rw len in
        let O' : Own own w = rw z at O in
        let e : w ≡ judge_mixed own = O'.right (omega (arith, length-take n (drop at s), length-drop at s)) k h f in
        m (near-place w (rw e (near-mixed own (omega (arith, length-take n (drop at s), length-drop at s))))) ∙ ap (shift at) e;
  }

  -- what is no item of so many bytes there
  pub too_long : longest < length s → Judges s at n v
  too_long l = record { right = λ few k h i. absurd (omega arith) }

  pub behind-end : length s < at → Judges s at n v
  behind-end l = record {
    right = λ few k h i. let w = frames-mixed.within (drop at s) k h n i in absurd (omega (arith, w.0, w.1, w.2, length-drop at s));
  }

  pub past_end : length s - at < n → Judges s at n v
  past_end l = record {
    right = λ few k h i. let w = frames-mixed.within (drop at s) k h n i in absurd (omega (arith, w.2, length-drop at s));
  }
