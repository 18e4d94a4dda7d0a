-- A step by its cases: what holds of each answer that it can give, with what it gives it for, holds of the step. Assumes nothing.
use Rattle.std.specs.Prelude.{ℕ, suc, ◌+◌, ◌-◌, ◌*◌, ◌≤◌, ◌<◌, ◌≡◌, refl, List, Bool, set, ltb, eqb}
use Rattle.std.proofs.Math.Bool.{true, false}
use native.Mathlib.Omega.{arith}
use Rattle.std.proofs.Common.{add-one, ltb-true, ltb-false, le-ltb, eqb-true}
use Rattle.std.proofs.Math.ListN.{length}
use Rattle.std.proofs.lemmas.Bool.{eqb-false}
use Rattle.base.specs.Pick.{pick, pick-by}
use Rattle.format.specs.declared.Kind.{Kind}
use Rattle.format.specs.declared.Kind.TheVariants.{Fixed, Variable, Group, Genus, Indexed}
use Rattle.format.specs.declared.Framed.{Framed}
use Rattle.format.specs.declared.Framed.TheVariants.{Item, Unframed}
use Rattle.format.specs.declared.Verdict.{Verdict}
use Rattle.format.specs.declared.Verdict.TheVariants.{Accepted, Refused}
use Rattle.format.specs.Units.{Domain}
use Rattle.format.specs.Registry.{is_indexed, is_overrideable}
use Rattle.format.specs.Framing.{frame_next}
use Rattle.format.specs.Judging.{judge_kind, own_check, max_depth}
use Rattle.walk_state.specs.declared.Walk.{Walk}
use Rattle.walk_state.specs.declared.Found.TheVariants as F
use Rattle.walk_state.specs.declared.Stepped.{Stepped}
use Rattle.walk_state.specs.Walking.{is_fit, closed, moved_to, opened, past, next_of, stop_of, judged}
use Rattle.walk_state.specs.Walking.{framed_by, frame_at, step_fit, step, found_in, step_in}
use Rattle.walk_claims.specs.Words.{units_in, tail_of}
use Rattle.laws.specs.Levels.{part}

-- ---- framing at a state: 7 is asked at top level, and where the mark is set

unfoldable pub asked : Walk → Bool
asked w = pick (eqb w.depth 0) true w.first

frame-asked : (w : Walk) (xs : List ℕ) → frame_at w xs ≡ frame_next w.indexed (asked w) xs
unfolding frame_at asked
frame-asked w xs = refl

-- ---- a step

module _ (s : List ℕ) (n : ℕ) (tail : Bool) (w : Walk) where
  -- the sextets up to the innermost end, framed
  abbrev pub framed_here : Framed
  framed_here = frame_next w.indexed (asked w) (part s w.at (stop_of w n))

  -- what a step judges of an item: of a group its own check
  abbrev pub judged_here : Kind → ℕ → ℕ → Verdict
  judged_here k h m = judge_kind k h (part s w.at (w.at + m)) (own_check (max_depth - w.depth))

  pub step_by {ℓ} : (P : Stepped ℕ → Type ℓ)
      → (w.at ≡ n → tail ≡ true → P (record { next = w; found = F.Refused 4 (4 * n) }))
      → (w.at ≡ n → tail ≡ false → P (record { next = w; found = F.End }))
      → ((m p : ℕ) → (w.at ≡ n → ⊥) → framed_here ≡ Unframed m p → P (record { next = w; found = F.Refused m (4 * w.at + p) }))
      → ((k : Kind) (h m q p : ℕ) → (w.at ≡ n → ⊥) → framed_here ≡ Item k h m → judged_here k h m ≡ Refused q p
      → P (record { next = w; found = F.Refused q (4 * w.at + p) }))
      → ((k : Kind) (h m : ℕ) → (w.at ≡ n → ⊥) → framed_here ≡ Item k h m → judged_here k h m ≡ Accepted
      → P (record { next = next_of w k h m; found = F.Item w.at m w.depth k h }))
      → P (step_fit s n tail w)
  unfolding step_fit framed_by judged
  step_by P cut end unframed refused item =
      pick-by P (eqb w.at n) _ _
      (λ e. pick-by (λ f. P (record { next = w; found = f })) tail _ _ (cut (eqb-true w.at n e)) (end (eqb-true w.at n e)))
      (λ e. rw (frame-asked w (part s w.at (stop_of w n))) (framed (eqb-false w.at n e) framed_here refl))
    where
      judge : (w.at ≡ n → ⊥) → (k : Kind) (h m : ℕ) → framed_here ≡ Item k h m → (v : Verdict) → judged_here k h m ≡ v → P (judged w k h m v)
      judge ne k h m f (Refused q p) e = refused k h m q p ne f e
      judge ne k h m f Accepted e = item k h m ne f e

      framed : (w.at ≡ n → ⊥) → (r : Framed) → framed_here ≡ r → P (framed_by s w r)
      framed ne (Unframed m p) e = unframed m p ne e
      framed ne (Item k h m) e = judge ne k h m e (judged_here k h m) refl

-- ---- the state behind an item

-- a group that is opened
abbrev pub entered : Walk → ℕ → ℕ → Bool → Bool → Walk
entered w h m first indexed = record {
  ends = set w.ends w.depth (w.at + m);
  depth = suc w.depth;
  at = w.at + h;
  first = pick (ltb h m) first false;
  indexed = indexed;
}

abbrev pub into_next : Walk → ℕ → ℕ → Bool → Bool → Walk
into_next w h m first indexed = closed (suc w.depth) (entered w h m first indexed)

abbrev pub over_next : Walk → ℕ → Walk
over_next w m = closed w.depth (moved_to w (w.at + m))

module _ (w : Walk) (h m : ℕ) where
  pub opens-next : (letter : ℕ) → next_of w (Group letter) h m ≡ into_next w h m (is_overrideable letter) (is_indexed letter)
  unfolding next_of past opened
  opens-next letter = rw (add-one w.depth)

  -- stepped over whole, or a group
  pub next-by {ℓ} : (P : Walk → Type ℓ) (k : Kind) → P (over_next w m)
      → ((letter : ℕ) → k ≡ Group letter → P (into_next w h m (is_overrideable letter) (is_indexed letter)))
      → P (next_of w k h m)
  unfolding next_of past moved_to
  next-by P (Fixed c) over into = over
  next-by P (Variable t l c) over into = over
  next-by P Genus over into = over
  next-by P (Indexed c) over into = over
  next-by P (Group letter) over into = rw (opens-next letter) (into letter refl)

-- ---- text and binary

-- a step counted in elements, u to the unit
abbrev pub in_elements : ℕ → Stepped ℕ → Stepped ℕ
in_elements u r = record { next = r.next; found = found_in u r.found }

module _ (d : Domain) (xs : List ℕ) (w : Walk) where
  -- a step of a fit state in this stream
  abbrev pub fit_step : Stepped ℕ
  fit_step = in_elements d.unit (step_fit (d.sextets xs) (units_in d xs) (tail_of d xs) w)

  pub in-by {ℓ} : (P : Stepped ℕ → Type ℓ)
      → (d.limit < length xs → P (record { next = w; found = F.Refused 1 0 }))
      → (length xs ≤ d.limit → is_fit w (units_in d xs) ≡ false → P (record { next = w; found = F.Refused 13 0 }))
      → (length xs ≤ d.limit → is_fit w (units_in d xs) ≡ true → P fit_step)
      → P (step_in d xs w)
  unfolding step_in step found_in
  in-by P long unfit fit =
      pick-by P (ltb d.limit (length xs)) _ _ (λ e. long (ltb-true d.limit (length xs) e))
      (λ e. go (ltb-false d.limit (length xs) e) (is_fit w (units_in d xs)) refl)
    where
      go : length xs ≤ d.limit → (b : Bool) → is_fit w (units_in d xs) ≡ b
          → P (in_elements d.unit (pick b (step_fit (d.sextets xs) (units_in d xs) (tail_of d xs) w)
          (record { next = w; found = F.Refused 13 0 })))
      go l true e = fit l e
      go l false e = let z : 0 * d.unit + 0 ≡ 0 = omega arith in rw z (unfit l e)

  pub fit-step : length xs ≤ d.limit → is_fit w (units_in d xs) ≡ true → step_in d xs w ≡ fit_step
  unfolding step_in step
  fit-step l f = rw (le-ltb d.limit (length xs) l, f)
