-- The walk of a body as a group's contents, and the walk of a stream in which the body stands in that group. Assumes nothing.
use Prim.Native.Nat.{ℕ, zero, suc, ◌+◌, ◌*◌, ◌/◌, ◌%◌, ◌≤◌, ◌<◌}
use Rattle.std.specs.Prelude.{◌≡◌, refl, List, Bool, true, eqb, length, get_or, take, drop, set}
use Rattle.std.proofs.Common.{sym, ap, ◌∙◌, arith, mul-div_cancel, le-div_iff_mul-le, add-mul, length-drop, length-take-le, eqb-true, eq-eqb}
use Rattle.std.proofs.Math.Bool.{false}
use Rattle.std.proofs.Math.Nat.{mul-mod_left}
use Rattle.std.proofs.Math.Seq.{get_or-set_other}
use Rattle.base.specs.Pick.{pick}
use Rattle.format.specs.declared.Kind.{Kind}
use Rattle.format.specs.declared.Framed.TheVariants.{Item}
use Rattle.format.specs.declared.Verdict.TheVariants.{Refused}
use Rattle.format.specs.Units.{Domain}
use Rattle.format.specs.Registry.{is_indexed, is_overrideable}
use Rattle.walk_state.specs.declared.Walk.{Walk}
use Rattle.walk_state.specs.declared.Found.{Found}
use Rattle.walk_state.specs.declared.Found.TheVariants as F
use Rattle.walk_state.specs.Walking.{is_fit, closed, moved_to, next_of, step_fit, step_in, found_in}
use Rattle.laws.specs.Domains.{Reader}
use Rattle.laws.specs.Levels.{part, part_length, take-of-drop}
use Rattle.walk_claims.specs.Words.{units_in, tail_of}
use Rattle.walk_claims.proofs.Fitting.{stop_at, stop-outer, Fits, plain, fit-made}
use Rattle.walk_claims.proofs.Steps.{entered, step_by, next-by, in_elements, fit-step}
use Rattle.walk_claims.proofs.Keeps.{step_fits}
use Rattle.groups_claims.specs.Words.{found_on}
use Rattle.groups_claims.proofs.Shift.{state, ends_on, moved_on, counted_on, end_on, end-off, length-on, step-on}

-- ---- in a group that ends where the body does, after m units

-- while a group is open the outermost is this one, and behind it is the end
pub record Inside (w : Walk) (m : ℕ) : Type 0 where
  pub fits : Fits w m
  pub outermost : 0 < w.depth → get_or w.ends 0 0 ≡ m
  pub over : w.depth ≡ 0 → w.at ≡ m

abbrev Around : ℕ → Walk → Type 0
Around m w = (0 < w.depth → get_or w.ends 0 0 ≡ m) × (w.depth ≡ 0 → w.at ≡ m)

closed-around : (m k : ℕ) (es : List ℕ) (at : ℕ) (first indexed : Bool) → Around m (state es k at first indexed)
    → Around m (closed k (state es k at first indexed))
unfolding closed
closed-around m zero es at first indexed a = a
closed-around m (suc k) es at first indexed a = go (eqb (get_or es k 0) at) refl (closed-around m k (set es k 0) at first false)
  where
    outside : Walk
    outside = state (set es k 0) k at first false

    same : (j : ℕ) → j ≡ 0 → get_or es j 0 ≡ m → get_or es j 0 ≡ at → at ≡ m
    same j z e f = sym f ∙ e

    go : (b : Bool) → eqb (get_or es k 0) at ≡ b → (Around m outside → Around m (closed k outside))
        → Around m (pick b (closed k outside) (state es (suc k) at first indexed))
    go true e rec =
        rec (
          λ l. get_or-set_other es k 0 0 0 (λ q. omega arith) ∙ a.0 (omega arith),
          λ z. same k z (rw z (a.0 (omega arith))) (eqb-true (get_or es k 0) at e),
        )
    go false e rec = a

module _ (m : ℕ) (w : Walk) (f : Fits w m) (o : get_or w.ends 0 0 ≡ m) (h : 0 < w.depth) where
  next-around : (k : Kind) (b c : ℕ) → Around m (next_of w k b c)
  unfolding moved_to
  next-around k b c =
      next-by w b c (Around m) k
      (closed-around m w.depth w.ends (w.at + c) false w.indexed (λ _. o, λ z. absurd (omega arith)))
      (λ letter _. closed-around m (suc w.depth) (entered w b c (is_overrideable letter) (is_indexed letter)).ends (w.at + b)
      (entered w b c (is_overrideable letter) (is_indexed letter)).first (is_indexed letter)
      (λ _. get_or-set_other w.ends w.depth 0 (w.at + c) 0 (λ q. omega arith) ∙ o, λ z. absurd (omega arith)))

-- a step within the group stays within it, or comes to its end
pub step-inside : (s : List ℕ) (m : ℕ) (w : Walk) → 4 * m ≤ length s → Inside w m → 0 < w.depth → Inside (step_fit s m false w).next m
step-inside s m w long i h =
    let a : Around m (step_fit s m false w).next =
    step_by s m false w (λ r. Around m r.next) (λ _ _. (i.outermost, i.over)) (λ _ _. (i.outermost, i.over))
    (λ q p _ _. (i.outermost, i.over)) (λ k b c q p _ _ _. (i.outermost, i.over))
    (λ k b c _ _ _. next-around m w i.fits (i.outermost h) h k b c) in
    record { fits = step_fits s m false w long i.fits; outermost = a.0; over = a.1 }

-- ---- the state counted on is fit for the stream

module _ (p m n : ℕ) (room : p + m ≤ n) (w : Walk) (f : Fits w m) (h : 0 < w.depth) where
  few : w.depth ≤ length w.ends
  few = omega (arith, f.nest.few, f.nest.full)

  stop-moved : (d : ℕ) → 0 < d → d ≤ w.depth → stop_at n d (ends_on p w.depth w.ends) ≡ p + stop_at m d w.ends
  unfolding stop_at
  stop-moved zero q l = absurd (omega arith)
  stop-moved (suc d) q l = let z = few in end_on p w.depth w.ends d (omega arith) (omega arith)

  within : (i : ℕ) → i < w.depth → get_or (ends_on p w.depth w.ends) i 0 ≤ stop_at n i (ends_on p w.depth w.ends)
  within zero l =
      let z = few in
      omega (
        arith,
        end_on p w.depth w.ends 0 l (omega arith),
        f.nest.within 0 l,
        stop-outer m w.ends,
        stop-outer n (ends_on p w.depth w.ends),
      )
  within (suc i) l =
      let z = few in
      omega (arith, end_on p w.depth w.ends (suc i) l (omega arith), f.nest.within (suc i) l, stop-moved (suc i) (omega arith) (omega arith))

  pub moved-fits : Fits (moved_on p w) n
  moved-fits =
      let stop = stop-moved w.depth h (omega arith) in
      let ahead : p + w.at < stop_at n w.depth (ends_on p w.depth w.ends) = omega (arith, f.ahead h) in
      record {
        nest = record {
          full = length-on p w.depth w.ends ∙ f.nest.full;
          few = f.nest.few;
          unused = λ i g l. end-off p w.depth w.ends i g ∙ f.nest.unused i g l;
          within = within;
          reached = omega arith;
          marked = λ e. (h, ahead);
          tabled = λ e. h;
        };
        ahead = λ _. ahead;
      }

-- ---- text and binary

found-on : (u p : ℕ) (f : Found ℕ) → found_in u (counted_on p f) ≡ found_on (p * u) (found_in u f)
unfolding found_in counted_on found_on
found-on u p (F.Item a n d k h) = rw (add-mul p a u)
found-on u p (F.Refused m q) =
    let z : (4 * p + q) / 4 ≡ p + q / 4 = omega arith in
    let y : (4 * p + q) % 4 ≡ q % 4 = omega arith in
    rw (z, y, add-mul p (q / 4) u) (ap (F.Refused m) (omega arith))
found-on u p F.End = refl

module _ (d : Domain) (R : Reader d) (xs : List ℕ) (p m : ℕ) (room : p + m ≤ units_in d xs) where
  -- the m units that stand p units on
  abbrev pub body_in : List ℕ
  body_in = take (m * d.unit) (drop (p * d.unit) xs)

  whole : (p + m) * d.unit ≤ length xs
  whole = (le-div_iff_mul-le R.pos).0 room

  behind : m * d.unit ≤ length (drop (p * d.unit) xs)
  behind = rw length-drop (omega (arith, whole, add-mul p m d.unit))

  body-length : length body_in ≡ m * d.unit
  body-length = length-take-le (m * d.unit) (drop (p * d.unit) xs) behind

  pub body-units : units_in d body_in ≡ m
  body-units = rw body-length (mul-div_cancel m R.pos)

  body-sextets : d.sextets body_in ≡ part (d.sextets xs) p (p + m)
  body-sextets =
      let a : p * d.unit ≤ length xs = omega (arith, whole, add-mul p m d.unit) in
      let e : p * 4 + m * 4 ≡ 4 * (p + m) = omega arith in
      let g : p * 4 ≡ 4 * p = omega arith in
      R.taken (drop (p * d.unit) xs) m behind ∙ ap (take (m * 4)) (R.dropped xs p a)
      ∙ take-of-drop (m * 4) (p * 4) (d.sextets xs) ∙ rw (e, g)

  body-tail : tail_of d body_in ≡ false
  body-tail = rw (body-length, mul-mod_left m d.unit)

  long : 4 * units_in d xs ≤ length (d.sextets xs)
  long = omega (arith, R.units xs)

  long-body : 4 * m ≤ length (part (d.sextets xs) p (p + m))
  long-body = omega (arith, part_length (d.sextets xs) p (p + m) (omega (arith, long)))

  short-body : length xs ≤ d.limit → length body_in ≤ d.limit
  short-body l = omega (arith, body-length, whole, add-mul p m d.unit)

  -- a step of the body by itself
  own-step : length xs ≤ d.limit → (w : Walk) → Fits w m
      → step_in d body_in w ≡ in_elements d.unit (step_fit (part (d.sextets xs) p (p + m)) m false w)
  own-step l w f =
      let fit : is_fit w (units_in d body_in) ≡ true = rw body-units (fit-made w m (plain w m f)) in
      fit-step d body_in w (short-body l) fit ∙ rw (body-sextets, body-units, body-tail)

  -- "the items of that walk, their offsets counted on": where a group is open, a step of the stream is the body's, counted on
  pub steps_on : length xs ≤ d.limit → (w : Walk) → Inside w m → 0 < w.depth
      → step_in d xs (moved_on p w)
      ≡ record { next = moved_on p (step_in d body_in w).next; found = found_on (p * d.unit) (step_in d body_in w).found }
  steps_on l w i h =
      let fit : is_fit (moved_on p w) (units_in d xs) ≡ true =
      fit-made (moved_on p w) (units_in d xs) (plain (moved_on p w) (units_in d xs) (moved-fits p m (units_in d xs) room w i.fits h)) in
      fit-step d xs (moved_on p w) l fit
      ∙ rw (
        step-on p (d.sextets xs) (units_in d xs) (tail_of d xs) m room w i.fits h long-body,
        found-on d.unit p (step_fit (part (d.sextets xs) p (p + m)) m false w).found,
        own-step l w i.fits,
      )

  -- and the body's walk stays in the group, or ends behind it
  pub stays-inside : length xs ≤ d.limit → (w : Walk) → Inside w m → 0 < w.depth → Inside (step_in d body_in w).next m
  stays-inside l w i h = rw (own-step l w i.fits) (step-inside (part (d.sextets xs) p (p + m)) m w long-body i h)

  -- behind the group the body's walk is at its end
  pub ends : length xs ≤ d.limit → (w : Walk) → Inside w m → w.depth ≡ 0 → step_in d body_in w ≡ record { next = w; found = F.End }
  unfolding step_fit found_in
  ends l w i z = own-step l w i.fits ∙ rw (eq-eqb w.at m (i.over z))
