-- What is to be written of a code that is named, before its room is asked: 6, 12, 15. Assumes nothing.
use Rattle.std.specs.Prelude.{ℕ, Ok, Result}
use Rattle.base.specs.Pick.{pick}
use Rattle.format.specs.Judging.{ondex_right}
use Rattle.format.specs.Indexed.{IndexNamed, none, row, fits_indexed}
use Rattle.format.specs.declared.IndexRow.{IndexRow}
use Rattle.format.specs.declared.Refusal.{Refusal}
use Rattle.format.specs.Refusals.{refused_by}

unfoldable pub plan_of : IndexNamed → ℕ → ℕ → ℕ → Result IndexRow (Refusal ℕ)
plan_of none index ondex raw = refused_by 6 0
plan_of (row c) index ondex raw =
    pick (fits_indexed c index ondex raw) (pick (ondex_right c ondex) (Ok c) (refused_by 15 0)) (refused_by 12 0)
