-- The loop that stores a report's rows: what all its turns ask, and what they leave. Assumes nothing.
use Rattle.std.specs.Prelude.{ℕ, ◌+◌, ◌*◌, ◌≤◌, ◌≡◌, List, [], ◌∷◌, ◌++◌, length}
use Rattle.std.proofs.lemmas.List.Edits.{sets}
use Rattle.format.specs.declared.Form.{Form}
use Rattle.format.specs.Units.{domain}
use Rattle.format.specs.Report.{rows_in, be4, report, report_answer, report_left}
use Rattle.runs.specs.Levels.{Clear}
use Rattle.runs_tables.specs.declared.Tables.{Tables}
use Rattle.runs_tables.specs.Lent.{Lent}
use Rattle.report_general.specs.Turns.{Fill}
use Rattle.report_last.specs.declared.End.{End}
use Rattle.report_last.specs.declared.End.TheVariants.{Whole, Rest}
use Rattle.std.specs.Prelude.{Result}
use Rattle.format.specs.declared.Refusal.{Refusal}

-- a stream within the limit, u elements to the unit, known from its start to a unit, and the tables
pub record Read (f : Form) (u : ℕ) (tables : Tables) (s : List ℕ) (known : ℕ) : Type 0 where
  pub unit : u ≡ (domain f).unit
  pub lent : Lent tables
  pub few : length s ≤ (domain f).limit
  pub clear : Clear ((domain f).sextets s) 0 known

-- its items are counted, and a buffer has room for the report
pub record Counted (f : Form) (u : ℕ) (tables : Tables) (s : List ℕ) (known n : ℕ) (out : List ℕ) : Type 0 where
  pub read : Read f u tables s known
  pub count : n ≡ length (rows_in (domain f) s)
  pub room : 17 + 18 * n ≤ length out

-- the buffer holds their number
pub record Begun (f : Form) (u : ℕ) (tables : Tables) (s : List ℕ) (known n : ℕ) (out : List ℕ) : Type 0 where
  pub counted : Counted f u tables s known n out
  pub held : List ℕ
  pub filled : Fill f s held n 0 0 0 out

-- what all turns leave: the last stores make the report
unfoldable pub Ends : Form → List ℕ → List ℕ → ℕ → End → List ℕ → Type 0
Ends f s o n (Whole k) out =
    (k ≤ n) × (sets (sets out (4 + 9 * n) (be4 k)) (8 + 9 * n + 9 * k) (be4 0) ≡ sets o 0 (report (domain f) s))
    × (length (report (domain f) s) ≡ 12 + 9 * n + 9 * k)
Ends f s o n (Rest p k x) out =
    (k ≤ n)
    × (sets (sets (sets out (4 + 9 * n) (be4 k)) (8 + 9 * n + 9 * k) (be4 1)) (12 + 9 * n + 9 * k) (be4 p ++ (x ∷ [])) ≡ sets o 0 (report (domain f) s))
    × (length (report (domain f) s) ≡ 17 + 9 * n + 9 * k)

-- whatever the buffer held before the first of them
pub record Ended (f : Form) (s : List ℕ) (n : ℕ) (out : List ℕ) (r : End) (out' : List ℕ) : Type 0 where
  pub ends : (o : List ℕ) → Fill f s o n 0 0 0 out → Ends f s o n r out'

-- ---- the whole

-- the report is written, and this is its length
pub record Written (f : Form) (s out : List ℕ) (r : ℕ) (out' : List ℕ) : Type 0 where
  pub long : r ≡ length (report (domain f) s)
  pub held : out' ≡ sets out 0 (report (domain f) s)

-- a call's answer, and what it leaves
pub record Answered (f : Form) (s out : List ℕ) (r : Result ℕ (Refusal ℕ)) (out' : List ℕ) : Type 0 where
  pub answer : r ≡ report_answer (domain f) s (length out)
  pub left : out' ≡ report_left r (domain f) s out
