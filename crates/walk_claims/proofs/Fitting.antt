-- 13: the test on a state, as plain facts and as facts on the end at each depth. Assumes nothing.
use Prim.Native.Nat.{ℕ, zero, suc, ◌-◌, ◌≤◌, ◌<◌}
use Rattle.std.specs.Prelude.{◌≡◌, refl, List, Bool, false, not, length, get_or, ltb, eqb}
use Rattle.std.proofs.Math.Bool.{true}
use Rattle.std.proofs.Math.Logic.{⊎_elim}
use native.Mathlib.Omega.{arith}
use Rattle.std.proofs.Math.Dec.{leb}
use borrow.Author.Tests.{ltb-true, leb-true, eqb-true, lt-ltb, le-ltb, le-leb, eq-eqb, ne_eqb}
use Rattle.base.specs.Pick.{pick}
use Rattle.base.specs.Cases.{lt-or-ge, whether}
use Rattle.format.specs.Judging.{max_depth}
use Rattle.walk_state.specs.declared.Walk.{Walk}
use Rattle.walk_state.specs.Walking.{all_below, slot_fits, is_fit}
use Rattle.walk_claims.specs.Words.{Fit}

-- ---- the test and the plain facts

both : (b x : Bool) → pick b x false ≡ true → (b ≡ true) × (x ≡ true)
both true x e = (refl, e)
both false x e = let z : ◌≡◌ {A = ℕ} 0 1 = cc in absurd (omega arith)

neither : (a b : Bool) → pick a false (not b) ≡ true → (a ≡ false) × (b ≡ false)
neither true b e = let z : ◌≡◌ {A = ℕ} 0 1 = cc in absurd (omega arith)
neither false true e = let z : ◌≡◌ {A = ℕ} 0 1 = cc in absurd (omega arith)
neither false false e = (refl, refl)

all-at : (p : ℕ → Bool) (n : ℕ) → all_below p n ≡ true → (k : ℕ) → k < n → p k ≡ true
unfolding all_below
all-at p zero e k h = absurd (omega arith)
all-at p (suc n) e k h =
    let b = both (p n) (all_below p n) e in
    ⊎_elim (λ lt. all-at p n b.1 k lt) (λ ge. let q : n ≡ k = omega arith in rw q at b.0) (lt-or-ge k n)

all_made : (p : ℕ → Bool) (n : ℕ) → ((k : ℕ) → k < n → p k ≡ true) → all_below p n ≡ true
unfolding all_below
all_made p zero f = refl
all_made p (suc n) f = rw (f n (omega arith)) (all_made p n (λ k h. f k (omega arith)))

module _ (w : Walk) (n : ℕ) where
  -- the last part of the test
  abbrev place_fits : Bool
  place_fits = pick (eqb w.depth 0) (pick w.first false (not w.indexed)) (ltb w.at (get_or w.ends (w.depth - 1) 0))

  slot-unused : (k : ℕ) → w.depth ≤ k → slot_fits w.ends w.depth n k ≡ true → get_or w.ends k 0 ≡ 0
  unfolding slot_fits
  slot-unused k h e = eqb-true (get_or w.ends k 0) 0 (rw (le-ltb k w.depth h) at e)

  slot-outermost : 0 < w.depth → slot_fits w.ends w.depth n 0 ≡ true → get_or w.ends 0 0 ≤ n
  unfolding slot_fits
  slot-outermost h e = leb-true (get_or w.ends 0 0) n (rw (lt-ltb 0 w.depth h) at e)

  slot-nested : (k : ℕ) → suc k < w.depth → slot_fits w.ends w.depth n (suc k) ≡ true → get_or w.ends (suc k) 0 ≤ get_or w.ends k 0
  unfolding slot_fits
  slot-nested k h e =
      let z : suc k - 1 ≡ k = omega arith in
      leb-true (get_or w.ends (suc k) 0) (get_or w.ends k 0)
      (rw (lt-ltb (suc k) w.depth h, ne_eqb (suc k) 0 (λ q. omega arith), z) at e)

  pub fit-facts : is_fit w n ≡ true → Fit w n
  unfolding is_fit
  fit-facts e =
      let a = both (leb w.depth max_depth) _ e in
      let b = both (leb w.at n) _ a.1 in
      let c = both (all_below (slot_fits w.ends w.depth n) max_depth) place_fits b.1 in
      let few : w.depth ≤ max_depth = leb-true w.depth max_depth a.0 in
      let slot = all-at (slot_fits w.ends w.depth n) max_depth c.0 in
      let place : place_fits ≡ true = c.1 in
      record {
        few = few;
        unused = λ i h l. slot-unused i h (slot i l);
        before = λ h. ltb-true w.at (get_or w.ends (w.depth - 1) 0) (rw (ne_eqb w.depth 0 (λ q. omega arith)) at place);
        inside = leb-true w.at n b.0;
        nested = λ i h. slot-nested i h (slot (suc i) (omega arith));
        outermost = λ h. slot-outermost h (slot 0 (omega arith));
        unmarked = λ h. (neither w.first w.indexed (rw (eq-eqb w.depth 0 h) at place)).0;
        unindexed = λ h. (neither w.first w.indexed (rw (eq-eqb w.depth 0 h) at place)).1;
      }

  module _ (f : Fit w n) where
    slot-made : (k : ℕ) → k < max_depth → slot_fits w.ends w.depth n k ≡ true
    unfolding slot_fits
    slot-made k h =
        ⊎_elim (λ l. rw (lt-ltb k w.depth l) (within k l)) (λ g. rw (le-ltb k w.depth g) (eq-eqb _ 0 (f.unused k g h)))
        (lt-or-ge k w.depth)
      where
        within : (j : ℕ) → j < w.depth → leb (get_or w.ends j 0) (pick (eqb j 0) n (get_or w.ends (j - 1) 0)) ≡ true
        within zero l = le-leb (get_or w.ends 0 0) n (f.outermost l)
        within (suc j) l =
            let z : suc j - 1 ≡ j = omega arith in
            rw (ne_eqb (suc j) 0 (λ q. omega arith), z) (le-leb (get_or w.ends (suc j) 0) (get_or w.ends j 0) (f.nested j l))

    place-made : place_fits ≡ true
    place-made =
        ⊎_elim (λ l. rw (ne_eqb w.depth 0 (λ q. omega arith)) (lt-ltb _ _ (f.before l)))
        (λ g. let z : w.depth ≡ 0 = omega arith in rw (eq-eqb w.depth 0 z, f.unmarked z, f.unindexed z)) (lt-or-ge 0 w.depth)

    pub fit-made : is_fit w n ≡ true
    unfolding is_fit
    fit-made =
        rw (
          le-leb w.depth max_depth f.few,
          le-leb w.at n f.inside,
          all_made (slot_fits w.ends w.depth n) max_depth slot-made,
        )
        place-made

-- ---- the facts by depth

-- where the innermost of d groups ends, or the stream of n units
unfoldable pub stop_at : ℕ → ℕ → List ℕ → ℕ
stop_at n zero ends = n
stop_at n (suc d) ends = get_or ends d 0

pub stop-inner : (n d : ℕ) (ends : List ℕ) → stop_at n (suc d) ends ≡ get_or ends d 0
unfolding stop_at
stop-inner n d ends = refl

pub stop-outer : (n : ℕ) (ends : List ℕ) → stop_at n 0 ends ≡ n
unfolding stop_at
stop-outer n ends = refl

-- before groups whose end is reached are closed
pub record Nested (w : Walk) (n : ℕ) : Type 0 where
  pub full : length w.ends ≡ max_depth
  pub few : w.depth ≤ max_depth
  pub unused : (i : ℕ) → w.depth ≤ i → i < max_depth → get_or w.ends i 0 ≡ 0
  pub within : (i : ℕ) → i < w.depth → get_or w.ends i 0 ≤ stop_at n i w.ends
  pub reached : w.at ≤ stop_at n w.depth w.ends
  pub marked : w.first ≡ true → (0 < w.depth) × (w.at < stop_at n w.depth w.ends)
  pub tabled : w.indexed ≡ true → 0 < w.depth

pub record Fits (w : Walk) (n : ℕ) : Type 0 where
  pub nest : Nested w n
  pub ahead : 0 < w.depth → w.at < stop_at n w.depth w.ends

stops-in : (n d : ℕ) (ends : List ℕ) → ((i : ℕ) → i < d → get_or ends i 0 ≤ stop_at n i ends) → stop_at n d ends ≤ n
unfolding stop_at
stops-in n zero ends h = omega arith
stops-in n (suc d) ends h = omega (arith, h d (omega arith), stops-in n d ends (λ i l. h i (omega arith)))

pub stop-in : (w : Walk) (n : ℕ) → Nested w n → stop_at n w.depth w.ends ≤ n
stop-in w n f = stops-in n w.depth w.ends f.within

inner-end : (n d : ℕ) (ends : List ℕ) → 0 < d → stop_at n d ends ≡ get_or ends (d - 1) 0
unfolding stop_at
inner-end n zero ends h = absurd (omega arith)
inner-end n (suc d) ends h = let z : suc d - 1 ≡ d = omega arith in rw z

module _ (w : Walk) (n : ℕ) where
  pub plain : Fits w n → Fit w n
  plain f = record {
    few = f.nest.few;
    unused = f.nest.unused;
    before = λ h. rw (← inner-end n w.depth w.ends h) (f.ahead h);
    inside = omega (arith, f.nest.reached, stop-in w n f.nest);
    nested = λ i h. omega (arith, f.nest.within (suc i) h, stop-inner n i w.ends);
    outermost = λ h. omega (arith, f.nest.within 0 h, stop-outer n w.ends);
    unmarked = λ h.
        ⊎_elim (λ m. absurd (omega (arith, (f.nest.marked m).0))) (λ m. m) (whether w.first);
    unindexed = λ h.
        ⊎_elim (λ m. absurd (omega (arith, f.nest.tabled m))) (λ m. m) (whether w.indexed);
  }

  pub by-depth : length w.ends ≡ max_depth → Fit w n → Fits w n
  by-depth full f = record {
    nest = record {
      full = full;
      few = f.few;
      unused = f.unused;
      within = slots;
      reached = ⊎_elim (λ l. omega (arith, ahead l)) (λ g. none g) (lt-or-ge 0 w.depth);
      marked = λ m. let l : 0 < w.depth = some w.first f.unmarked m in (l, ahead l);
      tabled = some w.indexed f.unindexed;
    };
    ahead = ahead;
  }
    where
      ahead : 0 < w.depth → w.at < stop_at n w.depth w.ends
      ahead h = rw (inner-end n w.depth w.ends h) (f.before h)

      none : w.depth ≤ 0 → w.at ≤ stop_at n w.depth w.ends
      none g = let z : w.depth ≡ 0 = omega arith in rw z (omega (arith, f.inside, stop-outer n w.ends))

      some : (b : Bool) → (w.depth ≡ 0 → b ≡ false) → b ≡ true → 0 < w.depth
      some b none m =
          ⊎_elim (λ l. l)
          (λ g. let u : b ≡ false = none (omega arith) in let z : ◌≡◌ {A = ℕ} 0 1 = cc in absurd (omega arith))
          (lt-or-ge 0 w.depth)

      slots : (i : ℕ) → i < w.depth → get_or w.ends i 0 ≤ stop_at n i w.ends
      slots zero h = omega (arith, f.outermost h, stop-outer n w.ends)
      slots (suc i) h = omega (arith, f.nested i h, stop-inner n i w.ends)
