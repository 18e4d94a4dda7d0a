-- The loop that stores a mixed report's rows: what all its turns ask, and what they leave. Assumes nothing.
use Rattle.std.specs.Prelude.{ℕ, ◌+◌, ◌*◌, ◌≤◌, ◌≡◌, List, [], ◌∷◌, ◌++◌, length}
use Rattle.std.proofs.lemmas.List.Edits.{sets}
use Rattle.format.specs.Report.{be4}
use Rattle.runs_tables.specs.declared.Tables.{Tables}
use Rattle.runs_tables.specs.Lent.{Lent}
use Rattle.report_last.specs.declared.End.{End}
use Rattle.report_last.specs.declared.End.TheVariants.{Whole, Rest}
use Rattle.mixed.specs.Mixed.{rows_mixed, mixed_report, mixed_limit, mixed_answer, mixed_left}
use Rattle.mixed_known.specs.Known.{Known}
use Rattle.mixed_turn.specs.Turns.{Fill}
use Rattle.std.specs.Prelude.{Result}
use Rattle.format.specs.declared.Refusal.{Refusal}

-- a stream within the limit, how far its characters are known, and the tables
pub record Read (tables : Tables) (s : List ℕ) (known : ℕ) : Type 0 where
  pub lent : Lent tables
  pub clean : Known s 0 known
  pub few : length s ≤ mixed_limit

-- its items are counted, and a buffer has room for the report
pub record Counted (tables : Tables) (s : List ℕ) (known n : ℕ) (out : List ℕ) : Type 0 where
  pub read : Read tables s known
  pub count : n ≡ length (rows_mixed s)
  pub room : 17 + 19 * n ≤ length out

-- the buffer holds their number
pub record Begun (tables : Tables) (s : List ℕ) (known n : ℕ) (out : List ℕ) : Type 0 where
  pub counted : Counted tables s known n out
  pub held : List ℕ
  pub filled : Fill s held n 0 0 0 out

-- what all turns leave: the last stores make the report
unfoldable pub Ends : List ℕ → List ℕ → ℕ → End → List ℕ → Type 0
Ends s o n (Whole k) out =
    (k ≤ n) × (sets (sets out (4 + 10 * n) (be4 k)) (8 + 10 * n + 9 * k) (be4 0) ≡ sets o 0 (mixed_report s))
    × (length (mixed_report s) ≡ 12 + 10 * n + 9 * k)
Ends s o n (Rest p k x) out =
    (k ≤ n)
    × (sets (sets (sets out (4 + 10 * n) (be4 k)) (8 + 10 * n + 9 * k) (be4 1)) (12 + 10 * n + 9 * k) (be4 p ++ (x ∷ [])) ≡ sets o 0 (mixed_report s))
    × (length (mixed_report s) ≡ 17 + 10 * n + 9 * k)

-- whatever the buffer held before the first of them
pub record Ended (s : List ℕ) (n : ℕ) (out : List ℕ) (r : End) (out' : List ℕ) : Type 0 where
  pub ends : (o : List ℕ) → Fill s o n 0 0 0 out → Ends s o n r out'

-- ---- the whole

-- the report is written, and this is its length
pub record Written (s out : List ℕ) (r : ℕ) (out' : List ℕ) : Type 0 where
  pub long : r ≡ length (mixed_report s)
  pub held : out' ≡ sets out 0 (mixed_report s)

-- a call's answer, and what it leaves
pub record Answered (s out : List ℕ) (r : Result ℕ (Refusal ℕ)) (out' : List ℕ) : Type 0 where
  pub answer : r ≡ mixed_answer s (length out)
  pub left : out' ≡ mixed_left r s out
