-- What the claims on a comparison speak of: where a section ends by its count, and what a stream's report and its own expectation are.
-- No proofs. Assumes nothing.
use Rattle.std.specs.Prelude.{ℕ, suc, ◌+◌, ◌*◌, ◌<◌, ◌≡◌, List, ◌++◌, map, ◌⊎◌, length, get_or, drop}
use Rattle.format.specs.declared.Verdict.TheVariants.{Accepted}
use Rattle.format.specs.Units.{Domain}
use Rattle.format.specs.Report.{rows_in, remainder_in, verdict_byte, be4}
use Rattle.damage.specs.Words.{row, In}
use Rattle.comparison.specs.declared.Compared.{Compared}
use Rattle.expectation.specs.Expectation.{count_at}

-- ---- files that are not well made, by their bytes alone

-- where a section with rows of w bytes that begins at a place has its end, by its count
abbrev pub end_of : ℕ → List ℕ → ℕ → ℕ
end_of w xs from = from + 4 + w * count_at (drop from xs)

-- "a missing count, a section shorter than its count says"
abbrev pub Cut : ℕ → List ℕ → ℕ → Type 0
Cut w xs from = (length xs < from + 4) ⊎ (length xs < end_of w xs from)

-- and of the last section: "a remainder count above 1, or bytes left over"
abbrev pub BadEnd : ℕ → List ℕ → ℕ → Type 0
BadEnd w xs from = Cut w xs from ⊎ ((1 < count_at (drop from xs)) ⊎ (end_of w xs from < length xs))

-- two sections
abbrev pub BadFile : List ℕ → Type 0
BadFile xs = Cut 1 xs 0 ⊎ BadEnd 1 xs (end_of 1 xs 0)

-- three
abbrev pub BadReport : List ℕ → Type 0
BadReport xs = Cut 9 xs 0 ⊎ (Cut 9 xs (end_of 9 xs 0) ⊎ BadEnd 5 xs (end_of 9 xs (end_of 9 xs 0)))

-- ---- files that are

-- an expectation file with these verdicts and, if any, this remainder's number
abbrev pub file_of : List ℕ → List ℕ → List ℕ
file_of es left = (be4 (length es) ++ es) ++ (be4 (length left) ++ left)

-- a stream's own verdicts, and its remainder's number, as its report has them
abbrev pub verdicts_in : Domain → List ℕ → List ℕ
verdicts_in d xs = map (λ r. verdict_byte r.verdict) (rows_in d xs)

abbrev pub left_in : Domain → List ℕ → List ℕ
left_in d xs = map (λ r. r.number) (remainder_in d xs)

-- each byte of a stream lies in an accepted item
abbrev pub EachAccepted : Domain → List ℕ → Type 0
EachAccepted d xs = (i : ℕ) → i < length xs
    → (k : ℕ) × (k < length (rows_in d xs)) × In (row (rows_in d xs) k) i × ((row (rows_in d xs) k).verdict ≡ Accepted)

-- the expectation that is made of them
abbrev pub own_file : Domain → List ℕ → List ℕ
own_file d xs = file_of (verdicts_in d xs) (left_in d xs)

-- ---- answers

-- all but the remainders
pub record SameCounts (a b : Compared) : Type 0 where
  pub number : a.number ≡ b.number
  pub passed : a.passed ≡ b.passed
  pub failed : a.failed ≡ b.failed
  pub unreached : a.unreached ≡ b.unreached
  pub beyond : a.beyond ≡ b.beyond

-- as many verdicts, and all but one of them alike
pub record OneOff (es vs : List ℕ) : Type 0 where
  pub as_many : length es ≡ length vs
  pub at : ℕ
  pub within : at < length es
  pub other : get_or es at 0 ≡ get_or vs at 0 → ⊥
  pub alike : (i : ℕ) → (i ≡ at → ⊥) → get_or es i 0 ≡ get_or vs i 0

-- of n expected all but one passed, and one failed
pub record OneFailed (n : ℕ) (a : Compared) : Type 0 where
  pub accepted : a.number ≡ 0
  pub one : a.failed ≡ 1
  pub others : suc a.passed ≡ n
  pub all-reached : a.unreached ≡ 0
  pub none-beyond : a.beyond ≡ 0
