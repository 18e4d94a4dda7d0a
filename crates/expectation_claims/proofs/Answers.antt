-- The sums of an answer, of any two files: the verdicts that are read are as many as the first count says. Assumes nothing.
use Rattle.std.specs.Prelude.{ℕ, ◌+◌, ◌*◌, ◌≡◌, refl, List, [], ◌∷◌, ltb, length, drop}
use Rattle.std.proofs.Common.{sym, ap, ◌∙◌, arith}
use Rattle.base.specs.Pick.{pick-by}
use Rattle.expectation.specs.Expectation.{Section, short, rows, count_at, section_of, Verdicts, malformed, verdicts, ending, column}
use Rattle.expectation.specs.Expectation.{expected_by, expected, behind_items, reported_by, reported}
use Rattle.comparison.specs.Comparing.{compared_by, compared}
use Rattle.comparison.proofs.Counting.{sum, items, column-length}

count-read : (w : ℕ) (xs : List ℕ) (n : ℕ) (body rest : List ℕ) → section_of w xs ≡ rows n body rest → n ≡ count_at xs
unfolding section_of
count-read w xs n body rest =
    let P : Section → Type 0 = λ s. s ≡ rows n body rest → n ≡ count_at xs in
    pick-by P (ltb (length xs) 4) _ _ (λ _ e. let z : ◌≡◌ {A = ℕ} 0 1 = cc in absurd (omega arith)) (λ _.
    pick-by P (ltb (length (drop 4 xs)) (w * count_at xs)) _ _ (λ _ e. let z : ◌≡◌ {A = ℕ} 0 1 = cc in absurd (omega arith))
    (λ _ e. cc))

-- the last section leaves the verdicts before it
verdicts-kept : (w j : ℕ) (vs es left : List ℕ) (s : Section) → ending w j vs s ≡ verdicts es left → vs ≡ es
unfolding ending
verdicts-kept w j vs es left short e = let z : ◌≡◌ {A = ℕ} 0 1 = cc in absurd (omega arith)
verdicts-kept w j vs es left (rows n xs (x ∷ rest)) e = let z : ◌≡◌ {A = ℕ} 0 1 = cc in absurd (omega arith)
verdicts-kept w j vs es left (rows n xs []) e =
    pick-by (λ r. r ≡ verdicts es left → vs ≡ es) (ltb 1 n) _ _ (λ _ q. let z : ◌≡◌ {A = ℕ} 0 1 = cc in absurd (omega arith)) (λ _ q. cc) e

as_many : (w j : ℕ) (xs : List ℕ) (n : ℕ) (body rest es : List ℕ) → section_of w xs ≡ rows n body rest → column w j n body ≡ es
    → length es ≡ count_at xs
as_many w j xs n body rest es s e = sym (ap length e) ∙ column-length w j n body ∙ count-read w xs n body rest s

expected-by : (file es left : List ℕ) (s : Section) → section_of 1 file ≡ s → expected_by s ≡ verdicts es left → length es ≡ count_at file
unfolding expected_by
expected-by file es left short s e = let z : ◌≡◌ {A = ℕ} 0 1 = cc in absurd (omega arith)
expected-by file es left (rows n body rest) s e =
    as_many 1 0 file n body rest es s (verdicts-kept 1 0 (column 1 0 n body) es left (section_of 1 rest) e)

behind-by : (us vs over : List ℕ) (s : Section) → behind_items us s ≡ verdicts vs over → us ≡ vs
unfolding behind_items
behind-by us vs over short e = let z : ◌≡◌ {A = ℕ} 0 1 = cc in absurd (omega arith)
behind-by us vs over (rows n body rest) e = verdicts-kept 5 4 us vs over (section_of 5 rest) e

reported-by : (rep vs over : List ℕ) (s : Section) → section_of 9 rep ≡ s → reported_by s ≡ verdicts vs over → length vs ≡ count_at rep
unfolding reported_by
reported-by rep vs over short s e = let z : ◌≡◌ {A = ℕ} 0 1 = cc in absurd (omega arith)
reported-by rep vs over (rows n body rest) s e =
    as_many 9 8 rep n body rest vs s (behind-by (column 9 8 n body) vs over (section_of 9 rest) e)

sums_by : (file rep : List ℕ) (a b : Verdicts) → expected file ≡ a → reported rep ≡ b → (compared_by a b).number ≡ 0
    → ((compared_by a b).passed + (compared_by a b).failed + (compared_by a b).unreached ≡ count_at file)
    × ((compared_by a b).passed + (compared_by a b).failed + (compared_by a b).beyond ≡ count_at rep)
unfolding compared_by expected reported
sums_by file rep malformed b x y e = absurd (omega arith)
sums_by file rep (verdicts es left) malformed x y e = absurd (omega arith)
sums_by file rep (verdicts es left) (verdicts vs over) x y e = (
  sum es vs ∙ expected-by file es left (section_of 1 file) refl x,
  items es vs ∙ reported-by rep vs over (section_of 9 rep) refl y,
)

pub sums : (file rep : List ℕ) → (compared file rep).number ≡ 0
    → ((compared file rep).passed + (compared file rep).failed + (compared file rep).unreached ≡ count_at file)
    × ((compared file rep).passed + (compared file rep).failed + (compared file rep).beyond ≡ count_at rep)
unfolding compared
sums file rep e = sums_by file rep (expected file) (reported rep) refl refl e
