-- The claims on the counted walk hold. Assumes nothing.
use Prim.Native.Nat.{ℕ, zero, suc, ◌+◌, ◌<◌, ◌≤◌}
use Rattle.std.specs.Prelude.{◌≡◌, refl, List, length}
use Rattle.std.proofs.Common.{sym, ◌∙◌}
use Rattle.std.proofs.Math.Path.{ap, subst}
use Rattle.std.proofs.Math.Logic.{⊎_elim}
use native.Mathlib.Omega.{arith}
use Rattle.std.proofs.Math.ListN.{length-replicate}
use Rattle.format.specs.Units.{Domain, text, binary}
use Rattle.format.specs.Judging.{max_depth}
use Rattle.walk_state.specs.declared.Found.{Found}
use Rattle.walk_state.specs.declared.Found.TheVariants as F
use Rattle.walk_state.specs.Walking.{start}
use Rattle.walk_claims.specs.Words.{units_in, after, found_at, Yields, Stops}
use Rattle.walk_claims.specs.Claims.{StreamClaims}
use Rattle.walk_claims.proofs.Runs.{one_of}
use Rattle.walk_claims.proofs.Proved as W
use Rattle.walk_tally.specs.declared.Tally.{Tally}
use Rattle.walk_tally.specs.Counting.{none, plus, run_in, rest_in, text_end, binary_end}
use Rattle.walk_tally.proofs.Runs.{run-stopped, run-yields, run-stops}
use Rattle.walk_tally.specs.Claims.{CountClaims, RestClaims, CountingClaims}
use Rattle.std.specs.Prelude.{None}

module _ (d : Domain) (xs : List ℕ) where
  -- k steps at most, from the state behind j
  pub record Counted (k j : ℕ) (t : Tally) : Type 0 where
    pub yields : (i : ℕ) → i < t.items → Yields (found_at d xs (j + i))
    pub last : t.last ≡ found_at d xs (j + t.items)
    pub bound : t.items ≤ k

  stopped : (k j : ℕ) → Counted k j (none (found_at d xs j))
  stopped k j =
      let z : j ≡ j + 0 = omega arith in
      record { yields = λ i h. absurd (omega arith); last = ap (found_at d xs) z; bound = omega arith }

  more : (k j : ℕ) (t : Tally) → Yields (found_at d xs j) → Counted k (suc j) t → Counted (suc k) j (plus 1 t)
  more k j t y c = record {
    yields = first;
    last = let z : suc j + t.items ≡ j + (1 + t.items) = omega arith in c.last ∙ ap (found_at d xs) z;
    bound = let b = c.bound in omega arith;
  }
    where
      first : (i : ℕ) → i < 1 + t.items → Yields (found_at d xs (j + i))
      first zero h = let z : j ≡ j + 0 = omega arith in subst (λ (x : ℕ). Yields (found_at d xs x)) z y
      first (suc i) h =
          let z : suc j + i ≡ j + suc i = omega arith in
          subst (λ (x : ℕ). Yields (found_at d xs x)) z (c.yields i (omega arith))

  counted : (k j : ℕ) → Counted k j (run_in d xs k (after d xs j))
  unfolding run_in after
  counted zero j = stopped zero j
  counted (suc k) j =
      ⊎_elim (λ y. subst (Counted (suc k) j) (sym (run-yields d xs k (after d xs j) y)) (more k j _ y (counted k (suc j))))
      (λ s. subst (Counted (suc k) j) (sym (run-stopped d xs (suc k) (after d xs j) s)) (stopped (suc k) j))
      (one_of (found_at d xs j))

  start-full : length start.ends ≡ max_depth
  unfolding start
  start-full = length-replicate {A = ℕ} max_depth 0

  claims : StreamClaims d xs → CountClaims d xs
  unfolding rest_in after
  claims C =
      let c = counted (units_in d xs) 0 in
      let z : 0 + (run_in d xs (units_in d xs) start).items ≡ (run_in d xs (units_in d xs) start).items = omega arith in
      let l : (run_in d xs (units_in d xs) start).last ≡ found_at d xs (run_in d xs (units_in d xs) start).items =
      c.last ∙ ap (found_at d xs) z in
      record {
        yields = λ i h. let e : 0 + i ≡ i = omega arith in subst (λ (x : ℕ). Yields (found_at d xs x)) e (c.yields i h);
        stops = subst Stops l (run-stops d xs C (units_in d xs) start start-full (omega arith));
        last = l;
        bound = c.bound;
      }

  rest-claims : StreamClaims d xs → RestClaims d xs
  unfolding rest_in
  rest-claims C = record { stops = λ w full. run-stops d xs C (units_in d xs) w full (omega arith) }

text-end : (f : Found ℕ) → Stops f → text_end f ≡ None → f ≡ F.End
unfolding text_end
text-end (F.Item o n d k h) s e = absurd s
text-end (F.Refused m p) s e = let z : ◌≡◌ {A = ℕ} 0 1 = cc in absurd (omega arith)
text-end F.End s e = refl

binary-end : (f : Found ℕ) → Stops f → binary_end f ≡ None → f ≡ F.End
unfolding binary_end
binary-end (F.Item o n d k h) s e = absurd s
binary-end (F.Refused m p) s e = let z : ◌≡◌ {A = ℕ} 0 1 = cc in absurd (omega arith)
binary-end F.End s e = refl

pub proved : CountingClaims
proved = record {
  of-text = λ xs. claims text xs ((W.proved).of-text xs);
  of-binary = λ xs. claims binary xs ((W.proved).of-binary xs);
  text-rest = λ xs. rest-claims text xs ((W.proved).of-text xs);
  binary-rest = λ xs. rest-claims binary xs ((W.proved).of-binary xs);
  text-end = λ xs w full. text-end _ ((rest-claims text xs ((W.proved).of-text xs)).stops w full);
  binary-end = λ xs w full. binary-end _ ((rest-claims binary xs ((W.proved).of-binary xs)).stops w full);
}
