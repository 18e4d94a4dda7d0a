-- The state behind an item that a step yields: where the position is, and when the first-item mark is set. Assumes nothing.
use Rattle.std.specs.Prelude.{ℕ, ◌+◌, ◌*◌, ◌<◌, ◌≡◌, List, false, ltb}
use Rattle.std.proofs.Math.Path.{refl, subst}
use Rattle.std.proofs.Common.{⊎_elim, arith, add-mul, mul-le-mul_right, lt-ltb, le-ltb}
use Rattle.base.specs.Cases.{lt-or-ge}
use Rattle.format.specs.declared.Kind.{Kind}
use Rattle.format.specs.declared.Kind.TheVariants.{Fixed, Variable, Group, Genus, Indexed}
use Rattle.format.specs.Units.{Domain}
use Rattle.laws.specs.Domains.{Reader}
use Rattle.walk_state.specs.declared.Walk.{Walk}
use Rattle.walk_state.specs.declared.Found.{Found}
use Rattle.walk_state.specs.declared.Found.TheVariants as F
use Rattle.walk_state.specs.Walking.{closed, moved_to, past, next_of, found_in, step_in}
use Rattle.walk_claims.specs.Words.{units_in, tail_of, opens, marks, Behind}
use Rattle.walk_claims.proofs.Steps.{step_by, over_next, opens-next, in-by}
use Rattle.walk_claims.proofs.Runs.{closed-keeps, closed_at}

closed-first : (k : ℕ) (w : Walk) → (closed k w).first ≡ w.first
closed-first = closed-keeps (λ w. w.first) (λ w ends k. refl)

-- as long in elements
scaled-ltb : (u h m : ℕ) → 0 < u → ltb (h * u) (m * u) ≡ ltb h m
scaled-ltb u h m pos =
    ⊎_elim (λ l. rw (lt-ltb h m l) (lt-ltb (h * u) (m * u) (omega (arith, mul-le-mul_right u l, add-mul h 1 u))))
    (λ g. rw (le-ltb h m g) (le-ltb (h * u) (m * u) (mul-le-mul_right u g))) (lt-or-ge h m)

module _ (d : Domain) (R : Reader d) (w : Walk) where
  over-at : (m : ℕ) → (over_next w m).at * d.unit ≡ w.at * d.unit + m * d.unit
  unfolding moved_to
  over-at m = rw closed_at (add-mul w.at m d.unit)

  over_first : (m : ℕ) → (over_next w m).first ≡ false
  unfolding moved_to
  over_first m = closed-first w.depth (moved_to w (w.at + m))

  abbrev Next : Kind → ℕ → ℕ → Type 0
  Next k h m = Behind d w (w.at * d.unit) (m * d.unit) w.depth k h (next_of w k h m)

  over-behind : (k : Kind) (h m : ℕ) → next_of w k h m ≡ over_next w m → opens k ≡ false
      → marks k (h * d.unit) (m * d.unit) ≡ false → Next k h m
  over-behind k h m e o f =
      record { offset = refl; depth = refl; position = rw (e, o) (over-at m); mark = rw (e, f) (over_first m) }

  group-behind : (letter h m : ℕ) → Next (Group letter) h m
  unfolding opens marks
  group-behind letter h m = record {
    offset = refl;
    depth = refl;
    position = rw (opens-next w h m letter, closed_at) (add-mul w.at h d.unit);
    mark = rw (opens-next w h m letter, closed-first, scaled-ltb d.unit h m R.pos);
  }

  next-behind : (k : Kind) (h m : ℕ) → Next k h m
  unfolding next_of past moved_to opens marks
  next-behind (Fixed c) h m = over-behind (Fixed c) h m refl refl refl
  next-behind (Variable t l c) h m = over-behind (Variable t l c) h m refl refl refl
  next-behind Genus h m = over-behind Genus h m refl refl refl
  next-behind (Indexed c) h m = over-behind (Indexed c) h m refl refl refl
  next-behind (Group letter) h m = group-behind letter h m

  abbrev Yielded : Found ℕ → Walk → Type 0
  Yielded (F.Item o n e k h) next = Behind d w o n e k h next
  Yielded (F.Refused m p) next = Unit {0}
  Yielded F.End next = Unit {0}

  pub behind : (xs : List ℕ) (o n e h : ℕ) (k : Kind) → (step_in d xs w).found ≡ F.Item o n e k h → Behind d w o n e k h (step_in d xs w).next
  unfolding found_in
  behind xs o n e h k q =
      subst (λ (f : Found ℕ). Yielded f (step_in d xs w).next) q
      (in-by d xs w (λ r. Yielded r.found r.next) (λ _. tt) (λ _ _. tt)
      (λ _ _. step_by (d.sextets xs) (units_in d xs) (tail_of d xs) w (λ r. Yielded (found_in d.unit r.found) r.next)
      (λ _ _. tt) (λ _ _. tt) (λ m p _ _. tt) (λ k' h' m q' p _ _ _. tt)
      (λ k' h' m _ _ _. next-behind k' h' m)))
