-- A row of a table, written from a place on. Assumes nothing.
use Rattle.std.specs.Prelude.{ℕ, ◌+◌, ◌<◌, ◌≡◌, List, length, get_or}

-- width entries by f; what is in front of them stays
pub record RowPut (size at width : ℕ) (f : ℕ → ℕ) (before after : List ℕ) : Type 0 where
  pub long : length after ≡ size
  pub row : (k : ℕ) → k < width → get_or after (at + k) 0 ≡ f k
  pub kept : (k : ℕ) → k < at → get_or after k 0 ≡ get_or before k 0
