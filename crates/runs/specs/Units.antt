-- A rule at a unit of a stream, by the unit's four elements. Assumes nothing.
use Rattle.std.specs.Prelude.{◌≡◌, List, ℕ, ◌+◌, ◌*◌, ◌/◌, ◌≤◌, ◌<◌, length}
use Rattle.std.proofs.Common.{lt-ltb, le-ltb}
use Rattle.format.specs.Framing.{sextet}
use Rattle.runs.specs.Plain.{unit_by}

four : (f : ℕ → ℕ → ℕ → ℕ → ℕ) {a b c d x y z w : ℕ} → a ≡ x → b ≡ y → c ≡ z → d ≡ w → f a b c d ≡ f x y z w
four f p q r s = cc

module _ (f : ℕ → ℕ → ℕ → ℕ → ℕ) (s : List ℕ) (at : ℕ) where
  pub unit-at : at < length s / 4 → {a b c d : ℕ} → a ≡ sextet s (4 * at) → b ≡ sextet s (4 * at + 1) → c ≡ sextet s (4 * at + 2)
      → d ≡ sextet s (4 * at + 3) → f a b c d ≡ unit_by f s at
  unfolding unit_by
  unit-at h p q r t = rw (lt-ltb _ _ h) (four f p q r t)

  pub unit-past : length s / 4 ≤ at → 0 ≡ unit_by f s at
  unfolding unit_by
  unit-past h = rw (le-ltb _ _ h)
