-- What is claimed of the counted walk. Statements only, each below the words of 01 or of what is asked of the count. Proved in Proved.
-- Assumes nothing.
use Rattle.std.specs.Prelude.{ℕ, ◌<◌, ◌≤◌, ◌≡◌, List, length}
use Rattle.format.specs.Units.{Domain, text, binary}
use Rattle.format.specs.Judging.{max_depth}
use Rattle.walk_state.specs.declared.Walk.{Walk}
use Rattle.walk_state.specs.declared.Found.TheVariants as F
use Rattle.walk_state.specs.Walking.{start}
use Rattle.walk_claims.specs.Words.{units_in, found_at, Yields, Stops}
use Rattle.walk_tally.specs.Counting.{rest_in, text_tally, binary_tally}
use Rattle.std.specs.Prelude.{None}

-- ---- of the walk of a stream, counted from the start

pub record CountClaims (d : Domain) (xs : List ℕ) : Type 0 where
  -- the steps before the count each yield an item
  pub yields : (i : ℕ) → i < (rest_in d xs start).items → Yields (found_at d xs i)
  -- the step behind them yields none, and what it finds is the answer
  pub stops : Stops (found_at d xs (rest_in d xs start).items)
  pub last : (rest_in d xs start).last ≡ found_at d xs (rest_in d xs start).items
  -- an item takes a unit at least
  pub bound : (rest_in d xs start).items ≤ units_in d xs

-- ---- counted from any state of as many slots as may be open, whoever made it: the code's states have as many

pub record RestClaims (d : Domain) (xs : List ℕ) : Type 0 where
  -- no count stops at an item, so that what Counting's text_end and binary_end have for one is never given
  pub stops : (w : Walk) → length w.ends ≡ max_depth → Stops (rest_in d xs w).last

-- ---- all of it

pub record CountingClaims : Type 0 where
  -- "the number of items of a stream and how the walk ended"
  pub of-text : (xs : List ℕ) → CountClaims text xs
  pub of-binary : (xs : List ℕ) → CountClaims binary xs
  pub text-rest : (xs : List ℕ) → RestClaims text xs
  pub binary-rest : (xs : List ℕ) → RestClaims binary xs
  -- "or the end": where the rest of a walk is told to have ended, it has
  pub text-end : (xs : List ℕ) (w : Walk) → length w.ends ≡ max_depth → (text_tally (rest_in text xs w)).end ≡ None
      → (rest_in text xs w).last ≡ F.End
  pub binary-end : (xs : List ℕ) (w : Walk) → length w.ends ≡ max_depth → (binary_tally (rest_in binary xs w)).end ≡ None
      → (rest_in binary xs w).last ≡ F.End
