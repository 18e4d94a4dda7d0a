-- What 02 m asks of the second judge. Statements only. Proved in Proved. Assumes nothing.
use Rattle.std.specs.Prelude.{ℕ, ◌*◌, ◌/◌, ◌≤◌, ◌<◌, ◌≡◌, List, ◌++◌, length, drop, take}
use Rattle.format.specs.Units.{binary}
use Rattle.format.specs.Conversion.{to_text}
use Rattle.format.specs.Report.{rows_in, remainder_in, report_answer, report_left}
use Rattle.second_claims.specs.Second.{rows_by_text, remainder_by_text, second_binary, work_left}
use Rattle.format.specs.Refusals.{refused_by}

pub record SecondClaims : Type 0 where
  -- "convert to text, then frame and judge": for every stream, "in whole units or not", what is found by way of the text is what 01's
  -- binary report has
  pub rows-by-text : (b : List ℕ) → rows_in binary b ≡ rows_by_text b
  pub remainder-by-text : (b : List ℕ) → remainder_in binary b ≡ remainder_by_text b
  -- "Given enough, for every stream .. its report equals the first engine's, refused calls included."
  pub equal : (xs : List ℕ) (work room : ℕ) → length xs / 3 * 4 ≤ work → second_binary xs work room ≡ report_answer binary xs room
  -- and the buffer holds the same. (Of a text the two calls have one contract, `report_answer text` and `report_left`, word for word.)
  pub equal-left : (xs out : List ℕ) (work : ℕ) → length xs / 3 * 4 ≤ work
      → report_left (second_binary xs work (length out)) binary xs out ≡ report_left (report_answer binary xs (length out)) binary xs out
  -- "with less it answers 3, after 1"
  pub less : (xs : List ℕ) (work room : ℕ) → length xs ≤ binary.limit → work < length xs / 3 * 4 → second_binary xs work room ≡ refused_by 3 0
  pub one : (xs : List ℕ) (work room : ℕ) → binary.limit < length xs → second_binary xs work room ≡ refused_by 1 0
  -- the working room
  pub kept-one : (xs work : List ℕ) → binary.limit < length xs → work_left xs work ≡ work
  pub kept_less : (xs work : List ℕ) → length work < length xs / 3 * 4 → work_left xs work ≡ work
  pub holds : (xs work : List ℕ) → length xs ≤ binary.limit → length xs / 3 * 4 ≤ length work
      → (take (length xs / 3 * 4) (work_left xs work) ≡ to_text xs) × (drop (length xs / 3 * 4) (work_left xs work) ≡ drop (length xs / 3 * 4) work)
