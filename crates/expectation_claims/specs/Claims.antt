-- What 02, request n, asks of a comparison, and what its users were promised besides, over the definitions that its contract cites; and
-- when a stream passed. Statements only, each below the words in quotes. What the words mean is in Words and in comparison's Words. Proved in
-- Proved. Assumes nothing.
use Rattle.std.specs.Prelude.{ℕ, suc, ◌+◌, ◌*◌, ◌%◌, ◌≤◌, ◌<◌, ◌≡◌, List, [], ◌++◌, true, false, ◌⊎◌, ◌↔◌, length, get_or}
use Rattle.format.specs.Units.{Domain, text, binary}
use Rattle.format.specs.Report.{rows_in, be4, report}
use Rattle.expectation.specs.Expectation.{count_at, verdicts, expected, reported}
use Rattle.comparison.specs.Comparing.{passed, failed, not_reached, beyond, agree}
use Rattle.comparison.specs.Comparing.{counted, refused, compared}
use Rattle.comparison.specs.Words.{count, passes, fails, misses}
use Rattle.passing.specs.Passing.{passed_in}
use Rattle.expectation_claims.specs.Words.{BadFile, BadReport, file_of, verdicts_in, left_in, own_file, EachAccepted}
use Rattle.expectation_claims.specs.Words.{SameCounts, OneOff, OneFailed}

-- ---- verdicts: es expected, vs of the report's items

pub record CountClaims : Type 0 where
  -- "A case passes exactly when an item with its index exists and has that verdict; it failed when the item exists with another; it is
  -- not reached otherwise."
  pub passes-are : (es vs : List ℕ) → passed es vs ≡ count (passes es vs) (length es)
  pub fails-are : (es vs : List ℕ) → failed es vs ≡ count (fails es vs) (length es)
  pub misses-are : (es vs : List ℕ) → not_reached es vs ≡ count (misses vs) (length es)
  -- "The three sum to the number expected"
  pub sum : (es vs : List ℕ) → passed es vs + failed es vs + not_reached es vs ≡ length es
  -- "items beyond it are given as a fourth number"
  pub items : (es vs : List ℕ) → passed es vs + failed es vs + beyond es vs ≡ length vs
  -- "an item that is not there is never counted as passed, whatever was expected"
  pub not_there : (es vs more : List ℕ) → length es ≡ length vs → passed (es ++ more) vs ≡ passed es vs
  pub nothing-there : (es : List ℕ) → passed es [] ≡ 0
  -- "a refused item only if its very number was expected"
  pub by_number : (es vs : List ℕ) (i n : ℕ) → get_or vs i 0 ≡ suc n → passes es vs i ≡ true → (i < length vs) × (get_or es i 0 ≡ suc n)

-- ---- the answer, of any two byte strings: where it is not 20, the number expected is the file's first count, that of the items the report's

pub record AnswerClaims : Type 0 where
  pub sum : (file rep : List ℕ) → let c = compared file rep in c.number ≡ 0 → c.passed + c.failed + c.unreached ≡ count_at file
  pub items : (file rep : List ℕ) → let c = compared file rep in c.number ≡ 0 → c.passed + c.failed + c.beyond ≡ count_at rep

-- ---- remainders

pub record RemainderClaims : Type 0 where
  -- "they agree exactly when both are absent or both have the same number"
  pub agree-exactly : (left over : List ℕ) → length left ≤ 1 → length over ≤ 1 → (agree left over ≡ true) ↔ (left ≡ over)
  -- "Remainders are compared on their own and never add to passed": whatever remainder is expected or reported, the counts are the same
  pub expected-apart : (es left left' rep : List ℕ) → length es < 4294967296 → length left ≤ 1 → length left' ≤ 1
      → SameCounts (compared (file_of es left) rep) (compared (file_of es left') rep)
  pub reported-apart : (file vs over over' rep rep' : List ℕ) → reported rep ≡ verdicts vs over → reported rep' ≡ verdicts vs over'
      → SameCounts (compared file rep) (compared file rep')

-- ---- 20

pub record MalformedClaims : Type 0 where
  -- "A file or report with a missing count, a section shorter than its count says, a remainder count above 1, or bytes left over is
  -- refused with new number 20, place 0; all counts are 0 and the remainders are answered as not agreeing."
  pub twenty : (file rep : List ℕ) → BadFile file ⊎ BadReport rep → compared file rep
      ≡ record { number = 20; place = 0; passed = 0; failed = 0; unreached = 0; beyond = 0; agree = false }
  -- and nothing else is: the number is 0 or 20, and 20 is for these alone
  pub only-twenty : (file rep : List ℕ) (n : ℕ) → (compared file rep).number ≡ suc n → BadFile file ⊎ BadReport rep
  -- "It reads only 01's report": rows of items that are a byte wider, n of them, are 20 by their length, unless n is 0, 4 or 5 more than
  -- a multiple of nine
  pub wider : (n m k : ℕ) (file body rest : List ℕ) → n < 4294967296 → length body ≡ 10 * n → length rest ≡ 8 + 9 * m + 5 * k → k ≤ 1
      → (n % 9 ≡ 0 → ⊥) → (n % 9 ≡ 4 → ⊥) → (n % 9 ≡ 5 → ⊥) → compared file ((be4 n ++ body) ++ rest) ≡ refused

-- ---- the judge's own report: d is text or binary, xs any stream within its limit

pub record OwnClaims (d : Domain) : Type 0 where
  -- "seeing only its promise": of a report the comparison sees the items' verdicts and the remainder's number
  pub sees : (xs : List ℕ) → length xs ≤ d.limit → reported (report d xs) ≡ verdicts (verdicts_in d xs) (left_in d xs)
  -- so verdicts are compared with the items' own, and remainders on their own
  pub compares : (xs es left : List ℕ) → length xs ≤ d.limit → length es < 4294967296 → length left ≤ 1
      → compared (file_of es left) (report d xs) ≡ counted es (verdicts_in d xs) (agree left (left_in d xs))
  -- "comparing a stream's own report with the expectation made of its own verdicts gives all passed, none failed, none unreached, none
  -- beyond, remainders agreeing"
  pub own : (xs : List ℕ) → length xs ≤ d.limit → compared (own_file d xs) (report d xs)
      ≡ record { number = 0; place = 0; passed = length (rows_in d xs); failed = 0; unreached = 0; beyond = 0; agree = true }
  -- "a report that differs from it in one verdict gives one failed"
  pub one-off : (xs vs over rep : List ℕ) → length xs ≤ d.limit → reported rep ≡ verdicts vs over → OneOff (verdicts_in d xs) vs
      → OneFailed (length (rows_in d xs)) (compared (own_file d xs) rep)

-- ---- any expectation file

pub record FileClaims : Type 0 where
  -- a well-made file is read as it was meant
  pub reads : (es left : List ℕ) → length es < 4294967296 → length left ≤ 1 → expected (file_of es left) ≡ verdicts es left
  -- two lists of verdicts that differ at one index: one failed, all others passed
  pub one-off : (es left vs over rep : List ℕ) → length es < 4294967296 → length left ≤ 1 → reported rep ≡ verdicts vs over → OneOff es vs
      → OneFailed (length es) (compared (file_of es left) rep)

-- ---- a stream passed, by a report's bytes

pub record PassedClaims : Type 0 where
  -- 20 is for a report that is not well made, and for nothing else; it is no pass
  pub twenty : (rep : List ℕ) → BadReport rep → passed_in rep ≡ record { number = 20; passed = false }
  pub only-twenty : (rep : List ℕ) (n : ℕ) → (passed_in rep).number ≡ suc n → BadReport rep
  -- of any report, whoever made it: "no refusal can be taken for a pass", no remainder either, and nothing judged is no pass
  pub nothing-refused : (rep vs over : List ℕ) → reported rep ≡ verdicts vs over → (passed_in rep).passed ≡ true
      → (over ≡ []) × (0 < length vs) × ((i : ℕ) → i < length vs → get_or vs i 0 ≡ 0)
  -- three counts and the items' rows are all there is: no row of a refusal
  pub no_row : (rep vs over : List ℕ) → reported rep ≡ verdicts vs over → (passed_in rep).passed ≡ true → length rep ≡ 12 + 9 * length vs

-- of the judge's own: "every byte of the stream lies in an accepted item", and there is one
pub record OwnPass (d : Domain) : Type 0 where
  pub exactly : (xs : List ℕ) → length xs ≤ d.limit → ((passed_in (report d xs)).passed ≡ true) ↔ ((0 < length xs) × EachAccepted d xs)
  pub well-made : (xs : List ℕ) → length xs ≤ d.limit → (passed_in (report d xs)).number ≡ 0

-- ---- all of it

pub record ExpectationClaims : Type 0 where
  pub counts : CountClaims
  pub answers : AnswerClaims
  pub remainders : RemainderClaims
  pub malformed-files : MalformedClaims
  pub files : FileClaims
  pub of-text : OwnClaims text
  pub of-binary : OwnClaims binary
  pub passes : PassedClaims
  pub text-passes : OwnPass text
  pub binary-passes : OwnPass binary
