-- A text and a binary with the same sextets: every state steps alike in both, offsets, sizes and places in the ratio four to
-- three. Assumes nothing.
use Prim.Native.Nat.{ℕ, zero, suc, ◌+◌, ◌-◌, ◌*◌, ◌/◌, ◌%◌, ◌≤◌}
use Rattle.std.specs.Prelude.{◌≡◌, Bool, false, length, take}
use Rattle.std.proofs.Math.Path.{refl, subst}
use Rattle.std.proofs.Common.{ap, ◌∙◌, le-ltb}
use mathlib.Core.List.{List}
use native.Mathlib.Omega.{arith}
use Rattle.base.specs.Pick.{pick-by}
use Rattle.base.specs.Digits.{Below, below-take, below-drop}
use Rattle.format.specs.declared.Framed.TheVariants.{Unframed}
use Rattle.format.specs.Units.{text, binary, text_sextets}
use Rattle.format.specs.Framing.{sextet}
use Rattle.format.specs.Judging.{own_check, max_depth}
use Rattle.laws.specs.Framing.{Told, next-told}
use Rattle.laws.specs.Judging.{kind-by, check-by}
use Rattle.claims.proofs.Aligned.{Aligned, aligned, below-anywhere}
use Rattle.claims.proofs.Ratio.{Same, same_units}
use Rattle.walk_state.specs.declared.Walk.{Walk}
use Rattle.walk_state.specs.declared.Found.{Found}
use Rattle.walk_state.specs.declared.Found.TheVariants as F
use Rattle.walk_state.specs.declared.Stepped.{Stepped}
use Rattle.walk_state.specs.Walking.{is_fit, stop_of, found_in, step_fit, step, step_in}
use Rattle.walk_claims.specs.Words.{after, FoundRatio, SameStep}
use Rattle.laws.specs.Levels.{part}
use Rattle.walk_claims.proofs.Steps.{asked, step_by}

-- a step's answer in both forms
abbrev InRatio : Found ℕ → Type 0
InRatio f = FoundRatio (found_in 4 f) (found_in 3 f)

at_unit : (m p : ℕ) → p % 4 ≡ 0 → InRatio (F.Refused m p)
unfolding found_in
at_unit m p e = (refl, omega arith)

module _ (s : List ℕ) (low : Below 64 s) (n : ℕ) (tail : Bool) (w : Walk) where
  part_low : (at stop : ℕ) → Below 64 (part s at stop)
  part_low at stop = below-drop 64 (4 * at) (take (4 * stop) s) (below-take 64 (4 * stop) s low)

  fit-ratio : InRatio (step_fit s n tail w).found
  unfolding found_in
  fit-ratio =
      step_by s n tail w (λ r. InRatio r.found) (λ _ _. at_unit 4 (4 * n) (omega arith)) (λ _ _. tt)
      (λ m p _ e.
      let here : List ℕ = part s w.at (stop_of w n) in
      let t : Told (sextet here) (Unframed m p) = subst (Told (sextet here)) e (next-told w.indexed (asked w) here) in
      let z : p ≡ 0 = t.1 (below-anywhere here (part_low w.at (stop_of w n))) in
      at_unit m (4 * w.at + p) (omega arith))
      (λ k h m q p _ _ e.
      let l : ℕ = max_depth - w.depth in
      let a : p % 4 ≡ 0 =
      subst Aligned e
      (kind-by (Below 64) Aligned aligned k h (part s w.at (w.at + m)) (own_check l) (part_low w.at (w.at + m))
      (check-by (Below 64) Aligned aligned l)) in
      at_unit q (4 * w.at + p) (omega arith))
      (λ k h m _ _ _. (omega arith, omega arith, refl, refl, refl))

  step-ratio : InRatio (step s n tail w).found
  unfolding step found_in
  step-ratio = pick-by (λ (r : Stepped ℕ). InRatio r.found) (is_fit w n) _ _ (λ _. fit-ratio) (λ _. at_unit 13 0 refl)

pub same_step : (t b : List ℕ) → Same t b → length t ≤ text.limit → length b ≤ binary.limit → (w : Walk)
    → SameStep (step_in text t w) (step_in binary b w)
unfolding step_in
same_step t b s lt lb w =
    let zt : length t % 4 ≡ 0 = s.quadlets in
    let zb : length b % 3 ≡ 0 = s.triplets in
    rw (
      le-ltb text.limit (length t) lt,
      le-ltb binary.limit (length b) lb,
      zt,
      zb,
      ← same_units t b s,
      ← s.sextets,
    )
    (record { next = refl; found = step-ratio (text_sextets t) s.alphabet (length t / 4) false w })

-- so the walks from the start go through the same states
pub same_after : (t b : List ℕ) → Same t b → length t ≤ text.limit → length b ≤ binary.limit → (k : ℕ) → after text t k ≡ after binary b k
unfolding after
same_after t b s lt lb zero = refl
same_after t b s lt lb (suc k) =
    (same_step t b s lt lb (after text t k)).next ∙ ap (λ (w : Walk). (step_in binary b w).next) (same_after t b s lt lb k)
