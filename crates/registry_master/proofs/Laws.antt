-- What a first unit opens, case by case of its first sextet. Assumes nothing.
use mathlib.Core.Path.{◌≡◌}
use Prim.Native.Nat.{ℕ, ◌-◌, ◌<◌, ◌≤◌}
use native.Mathlib.Omega.{arith}
use borrow.Author.Tests.{lt-ltb, le-ltb, eq-eqb, ne_eqb}
use Rattle.format.specs.declared.Opening.TheVariants.{Unknown}
use Rattle.format.specs.Registry.{fixed, opening}
use Rattle.registry_variable.specs.Parts.{small_variable, large_variable}
use Rattle.registry_group.specs.Parts.{group_opening}
use Rattle.registry_master.specs.Parts.{pad0_opening}

module _ (a b c d : ℕ) where
  pub opened-letter : a < 52 → opening a b c d ≡ fixed 1 a
  unfolding opening
  opened-letter h = simp (lt-ltb a 52 h)

  pub opened-zero : a ≡ 52 → opening a b c d ≡ fixed 2 b
  unfolding opening
  opened-zero e = simp (le-ltb a 52 (omega arith), eq-eqb a 52 e)

  pub opened_one : a ≡ 53 → opening a b c d ≡ pad0_opening b c d
  unfolding opening pad0_opening
  opened_one e = simp (le-ltb a 52 (omega arith), ne_eqb a 52 (λ z. omega arith), eq-eqb a 53 e)

  pub opened-two : 53 < a → a < 56 → opening a b c d ≡ Unknown
  unfolding opening
  opened-two g h = simp (le-ltb a 52 (omega arith), ne_eqb a 52 (λ z. omega arith), ne_eqb a 53 (λ z. omega arith), lt-ltb a 56 h)

  pub opened-small : 56 ≤ a → a < 59 → opening a b c d ≡ small_variable (a - 56) b c d
  unfolding opening small_variable
  opened-small g h =
      simp (le-ltb a 52 (omega arith), ne_eqb a 52 (λ z. omega arith), ne_eqb a 53 (λ z. omega arith), le-ltb a 56 g, lt-ltb a 59 h)

  pub opened-large : 59 ≤ a → a < 62 → opening a b c d ≡ large_variable (a - 59) b c d
  unfolding opening large_variable
  opened-large g h =
      simp (
        le-ltb a 52 (omega arith),
        ne_eqb a 52 (λ z. omega arith),
        ne_eqb a 53 (λ z. omega arith),
        le-ltb a 56 (omega arith),
        le-ltb a 59 g,
        lt-ltb a 62 h,
      )

  pub opened-group : a ≡ 62 → opening a b c d ≡ group_opening b c d
  unfolding opening group_opening
  opened-group e =
      simp (
        le-ltb a 52 (omega arith),
        ne_eqb a 52 (λ z. omega arith),
        ne_eqb a 53 (λ z. omega arith),
        le-ltb a 56 (omega arith),
        le-ltb a 59 (omega arith),
        le-ltb a 62 (omega arith),
        eq-eqb a 62 e,
      )

  pub opened-past : 62 < a → opening a b c d ≡ Unknown
  unfolding opening
  opened-past g =
      simp (
        le-ltb a 52 (omega arith),
        ne_eqb a 52 (λ z. omega arith),
        ne_eqb a 53 (λ z. omega arith),
        le-ltb a 56 (omega arith),
        le-ltb a 59 (omega arith),
        le-ltb a 62 (omega arith),
        ne_eqb a 62 (λ z. omega arith),
      )
