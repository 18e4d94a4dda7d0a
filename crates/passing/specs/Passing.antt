-- When a stream passed, by its report's bytes: an item at least, every verdict 0, no refusal, no remainder. Assumes nothing.
use Rattle.std.specs.Prelude.{ℕ, ◌+◌, ◌*◌, List, [], ◌∷◌, Bool, true, false, ltb, eqb, length}
use Rattle.base.specs.Pick.{pick}
use Rattle.expectation.specs.Expectation.{Verdicts, malformed, verdicts, reported}
use Rattle.passing.specs.declared.Outcome.{Outcome}

-- "verdict 0 means accepted"
unfoldable pub are_accepted : List ℕ → Bool
are_accepted [] = true
are_accepted (v ∷ vs) = pick (eqb v 0) (are_accepted vs) false

-- of a report of so many bytes without a remainder, whose items have these verdicts: three counts, nine bytes an item, and so no room for
-- the row of a refusal
unfoldable pub passed_of : ℕ → List ℕ → Bool
passed_of size vs = pick (eqb (length vs) 0) false (pick (eqb size (12 + 9 * length vs)) (are_accepted vs) false)

unfoldable pub passed_by : ℕ → Verdicts → Outcome
passed_by size malformed = record { number = 20; passed = false }
passed_by size (verdicts vs (n ∷ left)) = record { number = 0; passed = false }
passed_by size (verdicts vs []) = record { number = 0; passed = passed_of size vs }

unfoldable pub passed_in : List ℕ → Outcome
passed_in rep = passed_by (length rep) (reported rep)
