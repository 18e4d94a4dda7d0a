-- What the last stores of a report leave in a buffer. Assumes nothing.
use Rattle.std.specs.Prelude.{ℕ, ◌+◌, ◌*◌, ◌≤◌, ◌≡◌, List, [], ◌∷◌, ◌++◌, length}
use Rattle.format.specs.Report.{be4}
use Rattle.report_rows.specs.Stores.{put}
use Rattle.report_last.specs.declared.End.{End}
use Rattle.report_last.specs.declared.End.TheVariants.{Whole, Rest}

unfoldable pub refused_of : End → ℕ
refused_of (Whole k) = k
refused_of (Rest p k x) = k

-- the length that is answered, and what is stored, where the items' rows end at a place
abbrev pub Last : ℕ → End → List ℕ → ℕ → List ℕ → Type 0
Last at (Whole k) out r out' = (r ≡ at + 8 + 9 * k) × (out' ≡ put (put out at (be4 k)) (at + 4 + 9 * k) (be4 0))
Last at (Rest p k x) out r out' =
    (r ≡ at + 13 + 9 * k) × (out' ≡ put (put (put out at (be4 k)) (at + 4 + 9 * k) (be4 1)) (at + 8 + 9 * k) (be4 p ++ (x ∷ [])))

-- where the buffer has room for the refusals' rows behind them
pub record Lasts (at : ℕ) (e : End) (out : List ℕ) (r : ℕ) (out' : List ℕ) : Type 0 where
  pub right : at + 9 * refused_of e ≤ length out → Last at e out r out'
