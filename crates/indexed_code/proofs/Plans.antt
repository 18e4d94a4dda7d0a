-- The plan, case by case. Assumes nothing.
use Prim.Native.Nat.{ℕ}
use mathlib.Core.Path.{◌≡◌}
use mathlib.Core.Bool.{true, false}
use Rattle.format.specs.declared.IndexRow.{IndexRow}
use Rattle.format.specs.Judging.{ondex_right}
use Rattle.format.specs.Indexed.{IndexNamed, none, row, fits_indexed}
use Rattle.std.specs.Prelude.{Ok}
use Rattle.format.specs.Refusals.{refused_by}
use Rattle.indexed_code.specs.Plan.{plan_of}

module _ (c : IndexRow) (index ondex raw : ℕ) where
  pub unfit : fits_indexed c index ondex raw ≡ false → refused_by 12 0 ≡ plan_of (row c) index ondex raw
  unfolding plan_of
  unfit h = rw h

  module _ (fit : fits_indexed c index ondex raw ≡ true) where
    pub not-current : ondex_right c ondex ≡ false → refused_by 15 0 ≡ plan_of (row c) index ondex raw
    unfolding plan_of
    not-current h = rw (fit, h)

    pub fine : ondex_right c ondex ≡ true → Ok c ≡ plan_of (row c) index ondex raw
    unfolding plan_of
    fine h = rw (fit, h)

-- 6
pub unknown-plan : (n : IndexNamed) (index ondex raw : ℕ) → none ≡ n → refused_by 6 0 ≡ plan_of n index ondex raw
unfolding plan_of
unknown-plan n index ondex raw e = rw (← e)
