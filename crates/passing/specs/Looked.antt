-- How far the verdicts of a report have been looked at. Assumes nothing.
use Rattle.std.specs.Prelude.{ℕ, ◌+◌, ◌-◌, ◌*◌, ◌≤◌, ◌≡◌, List, drop}
use Rattle.expectation.specs.Expectation.{column}
use Rattle.passing.specs.Passing.{are_accepted}

-- the first i of n are 0: those behind them decide
pub record Looked (rep : List ℕ) (n i : ℕ) : Type 0 where
  pub within : i ≤ n
  pub same : are_accepted (column 9 8 n (drop 4 rep)) ≡ are_accepted (column 9 8 (n - i) (drop (4 + 9 * i) rep))
