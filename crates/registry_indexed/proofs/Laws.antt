-- What a first unit opens, by its first sextet: a letter alone, or a selector with a letter behind it. Assumes nothing.
use mathlib.Core.Path.{◌≡◌, refl, ap, sym}
use mathlib.Core.Bool.{Bool, true, false}
use Prim.Native.Nat.{ℕ, ◌<◌, ◌≤◌}
use native.Mathlib.Omega.{arith}
use borrow.Author.Tests.{lt-ltb, le-ltb, eqb-true, eqb-false}
use lib.Dec.{eqb}
use Rattle.base.specs.Pick.{pick}
use Rattle.format.specs.declared.Opening.TheVariants.{Unknown}
use Rattle.format.specs.Registry.{indexed_by, indexed_opening}
use Rattle.registry_indexed_table.proofs.Laws.{no_code}

module _ (a b c d : ℕ) where
  pub opened-letter : a < 52 → indexed_opening a b c d ≡ indexed_by 0 a
  unfolding indexed_opening
  opened-letter h = simp (lt-ltb a 52 h)

  -- a letter behind something else than a selector is that of no code
  by-selector : 52 ≤ a → (p q r : Bool) → eqb a 52 ≡ p → eqb a 54 ≡ q → eqb a 55 ≡ r
      → pick p (indexed_by 52 b) (pick q (indexed_by 54 b) (pick r (indexed_by 55 b) Unknown)) ≡ indexed_by a b
  by-selector h true q r e f g = ap (λ (x : ℕ). indexed_by x b) (sym (eqb-true a 52 e))
  by-selector h false true r e f g = ap (λ (x : ℕ). indexed_by x b) (sym (eqb-true a 54 f))
  by-selector h false false true e f g = ap (λ (x : ℕ). indexed_by x b) (sym (eqb-true a 55 g))
  by-selector h false false false e f g = no_code a b (λ z. omega (arith, h, z)) (eqb-false a 52 e) (eqb-false a 54 f) (eqb-false a 55 g)

  pub opened-selector : 52 ≤ a → indexed_opening a b c d ≡ indexed_by a b
  unfolding indexed_opening
  opened-selector h = rw (le-ltb a 52 h) (by-selector h (eqb a 52) (eqb a 54) (eqb a 55) refl refl refl)
