-- What the claims say to those who run many steps, of either form: only a fit state yields, and gives one of as many slots. Assumes nothing.
use Rattle.std.specs.Prelude.{ℕ, ◌≡◌, List, true, length}
use Rattle.std.proofs.Common.{subst, ⊎_elim}
use Rattle.base.specs.Cases.{lt-or-ge, whether}
use Rattle.format.specs.declared.Form.{Form}
use Rattle.format.specs.declared.Form.TheVariants.{Text, Binary}
use Rattle.format.specs.Units.{Domain, domain}
use Rattle.format.specs.Judging.{max_depth}
use Rattle.walk_state.specs.declared.Walk.{Walk}
use Rattle.walk_state.specs.declared.Stepped.{Stepped}
use Rattle.walk_state.specs.Walking.{is_fit, step_in}
use Rattle.walk_claims.specs.Words.{units_in, Yields}
use Rattle.walk_claims.specs.Claims.{StreamClaims}
use Rattle.walk_claims.proofs.Proved.{proved}

pub of-form : (form : Form) (xs : List ℕ) → StreamClaims (domain form) xs
of-form Text xs = proved.of-text xs
of-form Binary xs = proved.of-binary xs

module _ (d : Domain) (xs : List ℕ) (C : StreamClaims d xs) where
  pub yields-fit : (w : Walk) → Yields (step_in d xs w).found → is_fit w (units_in d xs) ≡ true
  yields-fit w y =
      ⊎_elim (λ over. absurd (subst (λ (r : Stepped ℕ). Yields r.found) (C.one w over) y))
      (λ short. ⊎_elim (λ e. e) (λ e. absurd (subst (λ (r : Stepped ℕ). Yields r.found) (C.thirteen w short e) y))
      (whether (is_fit w (units_in d xs))))
      (lt-or-ge d.limit (length xs))

  pub yields-full : (w : Walk) → length w.ends ≡ max_depth → Yields (step_in d xs w).found → length (step_in d xs w).next.ends ≡ max_depth
  yields-full w full y = (C.keeps-fit w full (yields-fit w y)).1
