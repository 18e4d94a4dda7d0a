-- Laws of a counted walk: a step that stops ends the count, one that yields is counted, and a walk that is given as many steps as
-- there are units stops. Assumes nothing.
use Prim.Native.Nat.{ℕ, zero, suc, ◌+◌, ◌≤◌, ◌<◌}
use Rattle.std.specs.Prelude.{◌≡◌, List, length}
use Rattle.std.proofs.Math.Path.{refl, subst}
use Rattle.std.proofs.Common.{sym, arith}
use Rattle.std.proofs.Math.Logic.{⊎_elim}
use Rattle.format.specs.Units.{Domain}
use Rattle.format.specs.Judging.{max_depth}
use Rattle.walk_state.specs.declared.Walk.{Walk}
use Rattle.walk_state.specs.declared.Found.{Found}
use Rattle.walk_state.specs.declared.Found.TheVariants as F
use Rattle.walk_state.specs.Walking.{step_in}
use Rattle.walk_claims.specs.Words.{units_in, Yields, Stops}
use Rattle.walk_claims.specs.Claims.{StreamClaims}
use Rattle.walk_claims.proofs.Proved.{proved}
use Rattle.walk_claims.proofs.Runs.{one_of}
use Rattle.walk_claims.proofs.Yielding.{yields-fit, yields-full}
use Rattle.walk_tally.specs.declared.Tally.{Tally}
use Rattle.walk_tally.specs.Counting.{none, plus, on_item, run_in}

on-stop : (f : Found ℕ) (t : Tally) → Stops f → on_item f t ≡ none f
on-stop (F.Item o n d k h) t s = absurd s
on-stop (F.Refused m p) t s = refl
on-stop F.End t s = refl

on-yield : (f : Found ℕ) (t : Tally) → Yields f → on_item f t ≡ plus 1 t
on-yield (F.Item o n d k h) t y = refl
on-yield (F.Refused m p) t y = absurd y
on-yield F.End t y = absurd y

module _ (d : Domain) (xs : List ℕ) where
  pub run-stopped : (k : ℕ) (w : Walk) → Stops (step_in d xs w).found → run_in d xs k w ≡ none (step_in d xs w).found
  unfolding run_in
  run-stopped zero w s = refl
  run-stopped (suc k) w s = on-stop (step_in d xs w).found (run_in d xs k (step_in d xs w).next) s

  pub run-yields : (k : ℕ) (w : Walk) → Yields (step_in d xs w).found → run_in d xs (suc k) w ≡ plus 1 (run_in d xs k (step_in d xs w).next)
  unfolding run_in
  run-yields k w y = on-yield (step_in d xs w).found (run_in d xs k (step_in d xs w).next) y

module _ (d : Domain) (xs : List ℕ) (C : StreamClaims d xs) where
  -- a state that yields stands before the stream's end
  pub yields_inside : (w : Walk) → length w.ends ≡ max_depth → Yields (step_in d xs w).found → w.at < units_in d xs
  yields_inside w full y =
      let f = C.keeps-fit w full (yields-fit d xs C w y) in
      omega (arith, C.moves-on w y, (proved.tests.only-fit (step_in d xs w).next (units_in d xs) f.0).inside)

  pub run-stops : (k : ℕ) (w : Walk) → length w.ends ≡ max_depth → units_in d xs ≤ w.at + k → Stops (run_in d xs k w).last
  unfolding run_in
  run-stops zero w full h =
      ⊎_elim (λ y. absurd (let i : w.at < units_in d xs = yields_inside w full y in omega arith)) (λ s. s) (one_of (step_in d xs w).found)
  run-stops (suc k) w full h =
      ⊎_elim
      (λ y. subst (λ (t : Tally). Stops t.last) (sym (run-yields d xs k w y))
      (run-stops k (step_in d xs w).next (yields-full d xs C w full y) (omega (arith, C.moves-on w y))))
      (λ s. subst (λ (t : Tally). Stops t.last) (sym (run-stopped d xs (suc k) w s)) s)
      (one_of (step_in d xs w).found)
