-- A unit of a text, its characters read by a table. Assumes nothing.
use mathlib.Core.Path.{◌≡◌, refl, sym, ◌∙◌}
use mathlib.Core.Bool.{Bool, false}
use mathlib.Core.List.{List}
use Prim.Native.Nat.{ℕ, ◌+◌, ◌*◌, ◌/◌, ◌≤◌, ◌<◌}
use native.Mathlib.Omega.{arith}
use lib.ListN.{length, get_or, length-map}
use Rattle.base.specs.Lists.{get_or-map-within}
use Rattle.runs.specs.Plain.{unit_by, sextets_by}
use Rattle.runs.specs.Units.{unit-at, unit-past}
use Rattle.runs_value.specs.Values.{is_selector, valued_of, other-valued, number_at, valued_at}

module _ (values s : List ℕ) where
  units : length (sextets_by values s) ≡ length s
  unfolding sextets_by
  units = length-map s (λ (c : ℕ). get_or values c 0)

  value-at : (i : ℕ) → i < length s → get_or values (get_or s i 0) 0 ≡ get_or (sextets_by values s) i 0
  unfolding sextets_by
  value-at i h = sym (get_or-map-within (λ (c : ℕ). get_or values c 0) s i 0 0 h)

module _ (f : ℕ → ℕ → ℕ → ℕ → ℕ) (values s : List ℕ) (at : ℕ) where
  pub text-unit : at < length s / 4 → {a b c d : ℕ} → a ≡ get_or values (get_or s (4 * at) 0) 0 → b ≡ get_or values (get_or s (4 * at + 1) 0) 0
      → c ≡ get_or values (get_or s (4 * at + 2) 0) 0 → d ≡ get_or values (get_or s (4 * at + 3) 0) 0 → f a b c d ≡ unit_by f (sextets_by values s) at
  text-unit h p q r t =
      unit-at f (sextets_by values s) at (rw (units values s) h) (p ∙ value-at values s (4 * at) (omega arith))
      (q ∙ value-at values s (4 * at + 1) (omega arith)) (r ∙ value-at values s (4 * at + 2) (omega arith))
      (t ∙ value-at values s (4 * at + 3) (omega arith))

  pub text-past : length s / 4 ≤ at → 0 ≡ unit_by f (sextets_by values s) at
  text-past h = unit-past f (sextets_by values s) at (rw (units values s) h)

-- ---- a small variable value

module _ (values s : List ℕ) (at : ℕ) where
  -- of four sextets of which each rule says what it says of the unit
  pub text-valued : {a b c d v r : ℕ} → v ≡ number_at (sextets_by values s) (at + 1)
      → ((f : ℕ → ℕ → ℕ → ℕ → ℕ) → f a b c d ≡ unit_by f (sextets_by values s) at) → r ≡ valued_of v a b c d → r ≡ valued_at (sextets_by values s) at
  text-valued e u w = w ∙ rw e (u (valued_of (number_at (sextets_by values s) (at + 1))))

  -- none under `4` `5` `6`
  pub text-other : at < length s / 4 → {a : ℕ} → a ≡ get_or values (get_or s (4 * at) 0) 0 → (y : Bool) → y ≡ is_selector a → y ≡ false
      → 0 ≡ valued_at (sextets_by values s) at
  text-other h p y e f =
      other-valued (number_at (sextets_by values s) (at + 1)) _ _ _ _ (sym e ∙ f)
      ∙ text-unit (valued_of (number_at (sextets_by values s) (at + 1))) values s at h p refl refl refl
