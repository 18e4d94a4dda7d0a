-- What holds at each turn of the counting loop, and what a turn does to it. Assumes nothing.
use Prim.Native.Nat.{ℕ, suc, ◌+◌, ◌-◌, ◌≤◌, ◌<◌}
use mathlib.Core.Path.{◌≡◌, sym, ap, ◌∙◌, subst}
use mathlib.Core.List.{List}
use native.Mathlib.Nat.{zero-add, add-zero, sub-zero}
use native.Mathlib.Omega.{arith}
use lib.ListN.{length}
use Rattle.format.specs.declared.Form.{Form}
use Rattle.format.specs.declared.Form.TheVariants.{Text, Binary}
use Rattle.format.specs.Units.{Domain, domain}
use Rattle.format.specs.Judging.{max_depth}
use Rattle.walk_state.specs.declared.Walk.{Walk}
use Rattle.walk_state.specs.declared.Stepped.{Stepped}
use Rattle.walk_state.specs.Walking.{step_in}
use Rattle.walk_claims.specs.Words.{units_in, Yields, Stops}
use Rattle.walk_claims.specs.Claims.{StreamClaims}
use Rattle.walk_claims.proofs.Yielding.{of-form, yields-full}
use Rattle.walk_tally.specs.declared.Tally.{Tally}
use Rattle.walk_tally.specs.Counting.{plus, run_in, rest_in}
use Rattle.walk_tally.proofs.Runs.{run-stopped, run-yields, yields_inside}

few : (form : Form) (xs : List ℕ) → units_in (domain form) xs ≤ length xs
few Text xs = omega arith
few Binary xs = omega arith

-- n items behind the first state: what is left, counted on, is what was left at first
pub record Going (form : Form) (xs : List ℕ) (w₀ w : Walk) (n : ℕ) : Type 0 where
  pub full : length w.ends ≡ max_depth
  pub below : n ≤ w.at
  pub whole : rest_in (domain form) xs w₀ ≡ plus n (run_in (domain form) xs (units_in (domain form) xs - n) w)

pub begin : (form : Form) (xs : List ℕ) (w : Walk) → length w.ends ≡ max_depth → Going form xs w w 0
unfolding rest_in
begin form xs w full = record { full = full; below = omega arith; whole = rw (sub-zero, zero-add) }

-- a turn, whose step is t
module _ (form : Form) (xs : List ℕ) (w₀ w : Walk) (n : ℕ) (g : Going form xs w₀ w n) (t : Stepped ℕ)
    (e : t ≡ step_in (domain form) xs w) where
  abbrev d : Domain
  d = domain form

  abbrev C : StreamClaims d xs
  C = of-form form xs

  pub stop : Stops t.found → record { items = n; last = t.found } ≡ rest_in d xs w₀
  stop s =
      let z : Stops (step_in d xs w).found = subst (λ (r : Stepped ℕ). Stops r.found) e s in
      rw e
      (sym (g.whole ∙ ap (plus n) (run-stopped d xs (units_in d xs - n) w z)
      ∙ ap (λ (c : ℕ). record { items = c; last = (step_in d xs w).found }) (add-zero n)))

  module _ (y : Yields t.found) where
    yields : Yields (step_in d xs w).found
    yields = subst (λ (r : Stepped ℕ). Yields r.found) e y

    before-end : w.at < units_in d xs
    before-end = yields_inside d xs C w g.full yields

    pub inside : n < length xs
    inside = let b = g.below in omega (arith, before-end, few form xs)

    pub less : units_in d xs - t.next.at < units_in d xs - w.at
    less = rw e (omega (arith, before-end, C.moves-on w yields))

    more : (c : Tally) → plus n (plus 1 c) ≡ plus (n + 1) c
    more c = ap (λ (k : ℕ). record { items = k; last = c.last }) (omega arith)

    pub again : Going form xs w₀ t.next (n + 1)
    again =
        let b = g.below in
        let left : units_in d xs - n ≡ suc (units_in d xs - (n + 1)) = omega (arith, before-end) in
        rw e
        (record {
          full = yields-full d xs C w g.full yields;
          below = omega (arith, C.moves-on w yields);
          whole =
              g.whole ∙ ap (λ (j : ℕ). plus n (run_in d xs j w)) left ∙ ap (plus n) (run-yields d xs (units_in d xs - (n + 1)) w yields)
              ∙ more (run_in d xs (units_in d xs - (n + 1)) (step_in d xs w).next);
        })
