-- Which bytes of the two files are compared, and how far the count of passes is. Assumes nothing.
use Rattle.std.specs.Prelude.{ℕ, ◌+◌, ◌*◌, ◌≤◌, ◌≡◌, List, Bool, ◌⊎◌, eqb, get_or}
use Rattle.comparison.specs.Words.{count}

-- the verdict expected at an index, against the one reported
abbrev pub alike : List ℕ → List ℕ → ℕ → Bool
alike file rep i = eqb (get_or file (4 + i) 0) (get_or rep (12 + 9 * i) 0)

-- of the first i of n verdicts, k are as expected
pub record Passing (file rep : List ℕ) (n i k : ℕ) : Type 0 where
  pub within : i ≤ n
  pub few : k ≤ i
  pub counts : k ≡ count (alike file rep) i

-- the lesser of two
pub record Least (x y r : ℕ) : Type 0 where
  pub first : r ≤ x
  pub second : r ≤ y
  pub one : (r ≡ x) ⊎ (r ≡ y)
