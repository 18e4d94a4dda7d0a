-- A group's checks by its levels. Assumes nothing.
use mathlib.Core.Path.{◌≡◌, refl}
use mathlib.Core.Bool.{Bool}
use Prim.Native.Nat.{ℕ, zero, suc}
use Rattle.format.specs.declared.Verdict.TheVariants.{Refused}
use Rattle.format.specs.Judging.{unless, is_shortest}
use Rattle.judging_header.specs.Checks.{group_checks}

-- 11, 18
pub no-levels : (h count l : ℕ) → l ≡ 0 → Refused 11 0 ≡ group_checks h count l
unfolding group_checks
no-levels h count l e = rw e

pub some-levels : (h count l : ℕ) → (l ≡ 0 → ⊥) → (b : Bool) → is_shortest h count ≡ b → unless 18 b ≡ group_checks h count l
unfolding group_checks
some-levels h count zero n b e = absurd (n refl)
some-levels h count (suc l) n b e = rw e
