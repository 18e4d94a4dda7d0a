-- A step of a fit state gives a fit state, and every state of the walk from the start is fit. Assumes nothing.
use Prim.Native.Nat.{ℕ, zero, suc, ◌+◌, ◌-◌, ◌*◌, ◌≤◌, ◌<◌}
use Rattle.std.proofs.Math.Path.{◌≡◌, refl}
use Rattle.std.proofs.Common.{◌∙◌, ⊎_elim, arith, length-set, get_or-set_same, ltb-true, eqb-true, ne_eqb}
use Rattle.std.specs.Prelude.{List, Bool, true, length, get_or, replicate, ltb, eqb}
use Rattle.std.proofs.Math.Bool.{false}
use Rattle.std.proofs.Math.ListN.{set}
use Rattle.std.proofs.Math.Seq.{get_or-set_other}
use Rattle.std.proofs.lemmas.Bool.{eqb-false}
use Rattle.base.specs.Pick.{pick}
use Rattle.base.specs.Cases.{lt-or-ge}
use Rattle.format.specs.declared.Kind.{Kind}
use Rattle.format.specs.declared.Kind.TheVariants.{Group}
use Rattle.format.specs.declared.Framed.TheVariants.{Item}
use Rattle.format.specs.declared.Verdict.TheVariants.{Accepted}
use Rattle.format.specs.Judging.{judge_kind, own_check, max_depth}
use Rattle.walk_state.specs.declared.Walk.{Walk}
use Rattle.walk_state.specs.Walking.{start, closed, moved_to, stop_of, step_fit}
use Rattle.laws.specs.Levels.{part, part_length, any-item, item-sizes}
use Rattle.walk_claims.proofs.Fitting.{stop_at, stop-inner, stop-in, Nested, Fits}
use Rattle.walk_claims.proofs.Steps.{asked, framed_here, judged_here, step_by, entered, into_next, over_next, next-by}

module _ (n : ℕ) where
  stop-below : (d i v : ℕ) (ends : List ℕ) → d ≤ i → stop_at n d (set ends i v) ≡ stop_at n d ends
  unfolding stop_at
  stop-below zero i v ends h = refl
  stop-below (suc d) i v ends h = get_or-set_other ends i d v 0 (λ e. omega arith)

  -- the ends outside of slot i
  within-set : (d i v : ℕ) (ends : List ℕ) → d ≤ i → ((j : ℕ) → j < d → get_or ends j 0 ≤ stop_at n j ends)
      → (j : ℕ) → j < d → get_or (set ends i v) j 0 ≤ stop_at n j (set ends i v)
  within-set d i v ends h f j l = rw (get_or-set_other ends i j v 0 (λ e. omega arith), stop-below j i v ends (omega arith)) (f j l)

  -- groups whose end is reached close
  closed-fits : (d : ℕ) (ends : List ℕ) (at : ℕ) (first indexed : Bool) → Nested (record { ends = ends; depth = d; at = at; first = first; indexed = indexed }) n
      → Fits (closed d (record { ends = ends; depth = d; at = at; first = first; indexed = indexed })) n
  unfolding closed
  closed-fits zero ends at first indexed f = record { nest = f; ahead = λ z. absurd (omega arith) }
  closed-fits (suc d) ends at first indexed f = go (eqb (get_or ends d 0) at) refl (closed-fits d (set ends d 0) at first false)
    where
      outside : Walk
      outside = record { ends = set ends d 0; depth = d; at = at; first = first; indexed = false }

      cleared : (i : ℕ) → d ≤ i → i < max_depth → get_or (set ends d 0) i 0 ≡ 0
      cleared i h l =
          ⊎_elim (λ lt. get_or-set_other ends d i 0 0 (λ e. omega arith) ∙ f.unused i lt l)
          (λ ge. let q : d ≡ i = omega arith in rw (← q) (get_or-set_same ends d 0 0 (omega (arith, f.full)))) (lt-or-ge d i)

      go : (b : Bool) → eqb (get_or ends d 0) at ≡ b → (Nested outside n → Fits (closed d outside) n)
          → Fits (pick b (closed d outside) (record { ends = ends; depth = suc d; at = at; first = first; indexed = indexed })) n
      go true e rec =
          let q : get_or ends d 0 ≡ at = eqb-true (get_or ends d 0) at e in
          rec (record {
            full = length-set ends d 0 ∙ f.full;
            few = omega (arith, f.few);
            unused = cleared;
            within = within-set d d 0 ends (omega arith) (λ j l. f.within j (omega arith));
            reached = rw (stop-below d d 0 ends (omega arith)) (omega (arith, f.within d (omega arith)));
            marked = λ m. absurd (omega (arith, (f.marked m).1, stop-inner n d ends));
            tabled = λ m. let z : ◌≡◌ {A = ℕ} 0 1 = cc in absurd (omega arith);
          })
      go false e rec = record { nest = f; ahead = λ _. late (eqb-false (get_or ends d 0) at e) }
        where
          late : (get_or ends d 0 ≡ at → ⊥) → at < stop_at n (suc d) ends
          late ne = omega (arith, f.reached, stop-inner n d ends)

  -- an item of m units with a header of h
  module _ (w : Walk) (f : Fits w n) (h m : ℕ) (some : h ≤ m) (room : w.at + m ≤ stop_at n w.depth w.ends) where
    pub over-fits : Fits (over_next w m) n
    unfolding moved_to
    over-fits =
        closed-fits w.depth w.ends (w.at + m) false w.indexed (record {
          full = f.nest.full;
          few = f.nest.few;
          unused = f.nest.unused;
          within = f.nest.within;
          reached = room;
          marked = λ e. let z : ◌≡◌ {A = ℕ} 0 1 = cc in absurd (omega arith);
          tabled = f.nest.tabled;
        })

    pub into-fits : (b t : Bool) → w.depth < max_depth → Fits (into_next w h m b t) n
    into-fits b t few = closed-fits (suc w.depth) (entered w h m b t).ends (w.at + h) (entered w h m b t).first t (record {
      full = length-set w.ends w.depth (w.at + m) ∙ f.nest.full;
      few = few;
      unused = λ i g l. get_or-set_other w.ends w.depth i (w.at + m) 0 (λ e. omega arith) ∙ f.nest.unused i (omega arith) l;
      within = inside;
      reached = rw innermost (omega arith);
      marked = λ e. (omega arith, rw innermost (nonempty (ltb h m) refl e));
      tabled = λ e. omega arith;
    })
      where
        own : get_or (set w.ends w.depth (w.at + m)) w.depth 0 ≡ w.at + m
        own = get_or-set_same w.ends w.depth (w.at + m) 0 (omega (arith, f.nest.full))

        innermost : stop_at n (suc w.depth) (set w.ends w.depth (w.at + m)) ≡ w.at + m
        innermost = stop-inner n w.depth (set w.ends w.depth (w.at + m)) ∙ own

        nonempty : (c : Bool) → ltb h m ≡ c → pick c b false ≡ true → w.at + h < w.at + m
        nonempty true e q = omega (arith, ltb-true h m e)
        nonempty false e q = let z : ◌≡◌ {A = ℕ} 0 1 = cc in absurd (omega arith)

        inside : (i : ℕ) → i < suc w.depth
            → get_or (set w.ends w.depth (w.at + m)) i 0 ≤ stop_at n i (set w.ends w.depth (w.at + m))
        inside i l =
            ⊎_elim (λ lt. within-set w.depth w.depth (w.at + m) w.ends (omega arith) f.nest.within i lt)
            (λ ge. let q : i ≡ w.depth = omega arith in
            rw (q, own, stop-below w.depth w.depth (w.at + m) w.ends (omega arith)) room)
            (lt-or-ge i w.depth)

-- ---- a step

pub few-open : (l letter h : ℕ) (ys : List ℕ) → own_check l letter h ys ≡ Accepted → 0 < l
unfolding own_check
few-open zero letter h ys e = let z : ◌≡◌ {A = ℕ} 0 1 = cc in absurd (omega arith)
few-open (suc l) letter h ys e = omega arith

pub stop-level : (w : Walk) (n : ℕ) → stop_of w n ≡ stop_at n w.depth w.ends
unfolding stop_of stop_at
stop-level w n = go w.depth
  where
    go : (d : ℕ) → pick (eqb d 0) n (get_or w.ends (d - 1) 0) ≡ stop_at n d w.ends
    go zero = refl
    go (suc d) = let z : suc d - 1 ≡ d = omega arith in rw (ne_eqb (suc d) 0 (λ e. omega arith), z)

-- an item that a step finds has a header, and ends within the innermost end
pub item_room : (s : List ℕ) (n : ℕ) (tail : Bool) (w : Walk) → 4 * n ≤ length s → Fits w n → (k : Kind) (h m : ℕ)
    → framed_here s n tail w ≡ Item k h m → (0 < h) × (h ≤ m) × (w.at + m ≤ stop_at n w.depth w.ends)
item_room s n tail w long f k h m e =
    let z : stop_of w n ≡ stop_at n w.depth w.ends = stop-level w n in
    let b = item-sizes w.indexed (part s w.at (stop_of w n)) k h m (any-item w.indexed (asked w) (part s w.at (stop_of w n)) k h m e) in
    let l : length (part s w.at (stop_of w n)) ≡ 4 * stop_of w n - 4 * w.at =
    part_length s w.at (stop_of w n) (omega (arith, stop-in w n f.nest)) in
    (b.0, b.1, omega (arith, f.nest.reached))

module _ (s : List ℕ) (n : ℕ) (tail : Bool) (w : Walk) (long : 4 * n ≤ length s) (f : Fits w n) where
  group-few : (k : Kind) (h m letter : ℕ) → judged_here s n tail w k h m ≡ Accepted → k ≡ Group letter → w.depth < max_depth
  unfolding judge_kind
  group-few k h m letter a e = omega (arith, few-open (max_depth - w.depth) letter h _ (rw e at a))

  pub step_fits : Fits (step_fit s n tail w).next n
  step_fits =
      step_by s n tail w (λ r. Fits r.next n) (λ _ _. f) (λ _ _. f) (λ m p _ _. f) (λ k h m q p _ _ _. f)
      (λ k h m _ e a. let b = item_room s n tail w long f k h m e in
      next-by w h m (λ v. Fits v n) k (over-fits n w f h m b.1 b.2)
      (λ letter q. into-fits n w f h m b.1 b.2 _ _ (group-few k h m letter a q)))

all-zero : (k i : ℕ) → ◌≡◌ {A = ℕ} (get_or (replicate k 0) i 0) 0
all-zero zero i = refl
all-zero (suc k) zero = refl
all-zero (suc k) (suc i) = all-zero k i

pub start_fits : (n : ℕ) → Fits start n
unfolding start stop_at
start_fits n = record {
  nest = record {
    full = refl;
    few = omega arith;
    unused = λ i h l. all-zero max_depth i;
    within = λ i h. absurd (omega arith);
    reached = omega arith;
    marked = λ e. let z : ◌≡◌ {A = ℕ} 0 1 = cc in absurd (omega arith);
    tabled = λ e. let z : ◌≡◌ {A = ℕ} 0 1 = cc in absurd (omega arith);
  };
  ahead = λ h. absurd (omega arith);
}
