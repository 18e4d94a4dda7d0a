-- 02, request n: an expectation file compared with a report, for every two byte strings. Assumes nothing.
use Rattle.std.specs.Prelude.{ℕ, ◌+◌, ◌-◌, List, [], ◌∷◌, Bool, true, false, eqb, length}
use Rattle.base.specs.Pick.{pick}
use Rattle.expectation.specs.Expectation.{Verdicts, malformed, verdicts, expected, reported}
use Rattle.comparison.specs.declared.Compared.{Compared}

-- ---- verdicts: es are expected, vs those of the report's items

-- "A case passes exactly when an item with its index exists and has that verdict"
unfoldable pub passed : List ℕ → List ℕ → ℕ
passed [] vs = 0
passed (e ∷ es) [] = 0
passed (e ∷ es) (v ∷ vs) = pick (eqb e v) 1 0 + passed es vs

-- "it failed when the item exists with another"
unfoldable pub failed : List ℕ → List ℕ → ℕ
failed [] vs = 0
failed (e ∷ es) [] = 0
failed (e ∷ es) (v ∷ vs) = pick (eqb e v) 0 1 + failed es vs

-- "it is not reached otherwise"
abbrev pub not_reached : List ℕ → List ℕ → ℕ
not_reached es vs = length es - length vs

-- "items beyond it are given as a fourth number"
abbrev pub beyond : List ℕ → List ℕ → ℕ
beyond es vs = length vs - length es

-- "Remainders are compared on their own and never add to passed: they agree exactly when both are absent or both have the same number."
unfoldable pub agree : List ℕ → List ℕ → Bool
agree [] [] = true
agree [] (n ∷ ns) = false
agree (m ∷ ms) [] = false
agree (m ∷ ms) (n ∷ ns) = eqb m n

abbrev pub counted : List ℕ → List ℕ → Bool → Compared
counted es vs agreeing = record {
  number = 0;
  place = 0;
  passed = passed es vs;
  failed = failed es vs;
  unreached = not_reached es vs;
  beyond = beyond es vs;
  agree = agreeing;
}

-- "is refused with new number 20, place 0; all counts are 0 and the remainders are answered as not agreeing"
abbrev pub refused : Compared
refused = record { number = 20; place = 0; passed = 0; failed = 0; unreached = 0; beyond = 0; agree = false }

unfoldable pub compared_by : Verdicts → Verdicts → Compared
compared_by malformed r = refused
compared_by (verdicts es left) malformed = refused
compared_by (verdicts es left) (verdicts vs over) = counted es vs (agree left over)

unfoldable pub compared : List ℕ → List ℕ → Compared
compared file report = compared_by (expected file) (reported report)
