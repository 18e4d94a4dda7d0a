-- Steps of a stream, one behind the other: the state stays where a step stops, else the position rises, so the walk ends.
-- Assumes nothing.
use Prim.Native.Nat.{ℕ, zero, suc, ◌+◌, ◌*◌, ◌≤◌, ◌<◌}
use Rattle.std.specs.Prelude.{◌≡◌, refl, List, true, false, ◌⊎◌, length, get_or, eqb}
use Rattle.std.proofs.Common.{sym, ◌∙◌}
use Rattle.std.proofs.Math.Path.{ap, subst}
use Rattle.std.proofs.Math.Logic.{inl, inr, ⊎_elim}
use native.Mathlib.Omega.{arith}
use Rattle.base.specs.Pick.{pick-by}
use Rattle.format.specs.declared.Kind.{Kind}
use Rattle.format.specs.declared.Framed.TheVariants.{Item}
use Rattle.format.specs.Units.{Domain}
use Rattle.format.specs.Judging.{max_depth}
use Rattle.laws.specs.Domains.{Reader}
use Rattle.walk_state.specs.declared.Walk.{Walk}
use Rattle.walk_state.specs.declared.Found.{Found}
use Rattle.walk_state.specs.declared.Found.TheVariants as F
use Rattle.walk_state.specs.declared.Stepped.{Stepped}
use Rattle.walk_state.specs.Walking.{is_fit, closed, moved_to, next_of, stop_of, found_in, step_fit, step_in}
use Rattle.walk_claims.specs.Words.{units_in, tail_of, after, found_at, Yields, Stops}
use Rattle.laws.specs.Levels.{part, any-item, item-sizes}
use Rattle.walk_claims.proofs.Fitting.{fit-facts, fit-made, Fits, plain, by-depth}
use Rattle.walk_claims.proofs.Steps.{asked, framed_here, step_by, next-by, in_elements, in-by, fit-step}
use Rattle.walk_claims.proofs.Keeps.{step_fits, start_fits}
use Rattle.walk_claims.proofs.Rest.{Telling, Tells, step-tells}

-- ---- a refusal and the end leave the state as it was

pub stays : (d : Domain) (xs : List ℕ) (w : Walk) → Stops (step_in d xs w).found → (step_in d xs w).next ≡ w
unfolding found_in
stays d xs w =
    in-by d xs w (λ r. Stops r.found → r.next ≡ w) (λ _ _. refl) (λ _ _ _. refl)
    (λ _ _. step_by (d.sextets xs) (units_in d xs) (tail_of d xs) w
    (λ r. Stops (found_in d.unit r.found) → r.next ≡ w)
    (λ _ _ _. refl) (λ _ _ _. refl) (λ m p _ _ _. refl) (λ k h m q p _ _ _ _. refl)
    (λ k h m _ _ _ z. absurd z))

-- ---- the position

-- what does not hang on the open groups
pub closed-keeps {ℓ} : {X : Type ℓ} (g : Walk → X)
    → ((w : Walk) (ends : List ℕ) (k : ℕ) → g (record { ends = ends; depth = k; at = w.at; first = w.first; indexed = false }) ≡ g w)
    → (k : ℕ) (w : Walk) → g (closed k w) ≡ g w
unfolding closed
closed-keeps g same zero w = refl
closed-keeps g same (suc k) w =
    pick-by (λ v. g v ≡ g w) (eqb (get_or w.ends k 0) w.at) _ _ (λ _. closed-keeps g same k _ ∙ same w _ k) (λ _. refl)

pub closed_at : (k : ℕ) (w : Walk) → (closed k w).at ≡ w.at
closed_at = closed-keeps (λ w. w.at) (λ w ends k. refl)

-- an item moves it on by a unit at least: its header's
next-at : (w : Walk) (k : Kind) (h m : ℕ) → 0 < h → h ≤ m → w.at < (next_of w k h m).at
unfolding moved_to
next-at w k h m some le =
    next-by w h m (λ v. w.at < v.at) k (rw closed_at (omega arith)) (λ letter _. rw closed_at (omega arith))

-- never back, and on where an item is yielded
pub record Moves (w : Walk) (r : Stepped ℕ) : Type 0 where
  pub never_back : w.at ≤ r.next.at
  pub on : Yields r.found → w.at < r.next.at

pub moves : (d : Domain) (xs : List ℕ) (w : Walk) → Moves w (step_in d xs w)
unfolding found_in
moves d xs w =
    in-by d xs w (Moves w) (λ _. none) (λ _ _. none)
    (λ _ _. step_by (d.sextets xs) (units_in d xs) (tail_of d xs) w (λ r. Moves w (in_elements d.unit r))
    (λ _ _. none) (λ _ _. ended) (λ m p _ _. none) (λ k h m q p _ _ _. none) (λ k h m _ e _. item k h m e))
  where
    none : {m p : ℕ} → Moves w (record { next = w; found = F.Refused m p })
    none = record { never_back = omega arith; on = λ z. absurd z }

    ended : Moves w (record { next = w; found = F.End })
    ended = record { never_back = omega arith; on = λ z. absurd z }

    item : (k : Kind) (h m : ℕ) → framed_here (d.sextets xs) (units_in d xs) (tail_of d xs) w ≡ Item k h m
        → Moves w (in_elements d.unit (record { next = next_of w k h m; found = F.Item w.at m w.depth k h }))
    item k h m e =
        let own : List ℕ = part (d.sextets xs) w.at (stop_of w (units_in d xs)) in
        let b = item-sizes w.indexed own k h m (any-item w.indexed (asked w) own k h m e) in
        let lt : w.at < (next_of w k h m).at = next-at w k h m b.0 b.1 in
        record { never_back = omega arith; on = λ _. lt }

-- ---- fit on the way

module _ (d : Domain) (R : Reader d) (xs : List ℕ) where
  pub long : 4 * units_in d xs ≤ length (d.sextets xs)
  long = omega (arith, R.units xs)

  step-fits-in : (w : Walk) → Fits w (units_in d xs) → Fits (step_in d xs w).next (units_in d xs)
  step-fits-in w f = in-by d xs w (λ r. Fits r.next (units_in d xs)) (λ _. f) (λ _ _. f) (λ _ _. step_fits (d.sextets xs) _ _ w long f)

  pub after-fits : (k : ℕ) → Fits (after d xs k) (units_in d xs)
  unfolding after
  after-fits zero = start_fits (units_in d xs)
  after-fits (suc k) = step-fits-in (after d xs k) (after-fits k)

  pub after-fit : (k : ℕ) → is_fit (after d xs k) (units_in d xs) ≡ true
  after-fit k = fit-made (after d xs k) (units_in d xs) (plain (after d xs k) (units_in d xs) (after-fits k))

  -- any fit state's next
  pub keeps-fit : (w : Walk) → length w.ends ≡ max_depth → is_fit w (units_in d xs) ≡ true
      → (is_fit (step_in d xs w).next (units_in d xs) ≡ true) × (length (step_in d xs w).next.ends ≡ max_depth)
  keeps-fit w full e =
      let v : Walk = (step_in d xs w).next in
      let f : Fits v (units_in d xs) = step-fits-in w (by-depth w (units_in d xs) full (fit-facts w (units_in d xs) e)) in
      (fit-made v (units_in d xs) (plain v (units_in d xs) f), f.nest.full)

-- ---- the walk ends

-- a fit state at the stream's end
at-end-stops : (d : Domain) (xs : List ℕ) (w : Walk) → units_in d xs ≤ w.at → Stops (step_in d xs w).found
unfolding found_in
at-end-stops d xs w h =
    in-by d xs w (λ r. Stops r.found) (λ _. tt) (λ _ _. tt)
    (λ _ f. let z : w.at ≡ units_in d xs = omega (arith, (fit-facts w (units_in d xs) f).inside) in
    step_by (d.sextets xs) (units_in d xs) (tail_of d xs) w (λ r. Stops (found_in d.unit r.found))
    (λ _ _. tt) (λ _ _. tt) (λ m p _ _. tt) (λ k h m q p _ _ _. tt)
    (λ k h m ne _ _. absurd (ne z)))

pub one_of : (f : Found ℕ) → Yields f ⊎ Stops f
one_of (F.Item o n d k h) = inl tt
one_of (F.Refused m p) = inr tt
one_of F.End = inr tt

module _ (d : Domain) (xs : List ℕ) where
  -- a walk that has stopped goes no further
  pub after_stop : (k : ℕ) → Stops (found_at d xs k) → (j : ℕ) → after d xs (k + j) ≡ after d xs k
  unfolding after
  after_stop k h zero = let z : k + 0 ≡ k = omega arith in rw z
  after_stop k h (suc j) =
      let z : k + suc j ≡ suc (k + j) = omega arith in
      ap (after d xs) z ∙ ap (λ (w : Walk). (step_in d xs w).next) (after_stop k h j) ∙ stays d xs (after d xs k) h

  stopped-next : (k : ℕ) → Stops (found_at d xs k) → Stops (found_at d xs (suc k))
  unfolding after
  stopped-next k h = subst (λ (w : Walk). Stops (step_in d xs w).found) (sym (stays d xs (after d xs k) h)) h

  -- a unit to each item
  far : (k : ℕ) → Stops (found_at d xs k) ⊎ (k ≤ (after d xs k).at)
  unfolding after
  far zero = inr (omega arith)
  far (suc k) =
      ⊎_elim (λ h. inl (stopped-next k h))
      (λ le. ⊎_elim (λ y. inr (omega (arith, (moves d xs (after d xs k)).on y))) (λ h. inl (stopped-next k h))
      (one_of (found_at d xs k)))
      (far k)

  pub ends : (k : ℕ) → units_in d xs ≤ k → Stops (found_at d xs k)
  ends k h = ⊎_elim (λ s. s) (λ le. at-end-stops d xs (after d xs k) (omega arith)) (far k)

-- ---- what each step of the walk tells

module _ (d : Domain) (R : Reader d) (xs : List ℕ) (short : length xs ≤ d.limit) (X : Type 0)
    (T : Telling (d.sextets xs) (units_in d xs) (tail_of d xs) X) where
  pub tells-after : (P : Walk → Stepped ℕ → Type 0)
      → ((w next : Walk) (f : Found ℕ) → Tells (d.sextets xs) (units_in d xs) (tail_of d xs) X T w (record { next = next; found = f })
      → (Stops (found_in d.unit f) → next ≡ w) → P w (in_elements d.unit (record { next = next; found = f })))
      → (k : ℕ) → P (after d xs k) (step_in d xs (after d xs k))
  tells-after P told k =
      let w : Walk = after d xs k in
      let r : Stepped ℕ = step_fit (d.sextets xs) (units_in d xs) (tail_of d xs) w in
      let z : step_in d xs w ≡ in_elements d.unit r = fit-step d xs w short (after-fit d R xs k) in
      subst (P w) (sym z)
      (told w r.next r.found
      (step-tells (d.sextets xs) (units_in d xs) (tail_of d xs) X T w (long d R xs) (after-fits d R xs k))
      (subst (λ (q : Stepped ℕ). Stops q.found → q.next ≡ w) z (stays d xs w)))
