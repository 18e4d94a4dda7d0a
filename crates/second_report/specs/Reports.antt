-- What the second judge's report asks, and what is answered: a stream of either form by the text it is judged by. Assumes nothing.
use Rattle.std.specs.Prelude.{ℕ, ◌+◌, ◌*◌, ◌≤◌, ◌≡◌, List, [], ◌∷◌, ◌++◌, eqb, length}
use Rattle.std.proofs.lemmas.List.Edits.{sets}
use Rattle.base.specs.Pick.{pick}
use Rattle.format.specs.declared.Form.{Form}
use Rattle.format.specs.declared.Form.TheVariants.{Text, Binary}
use Rattle.format.specs.Units.{domain, text, text_sextets}
use Rattle.format.specs.declared.Verdict.{Verdict}
use Rattle.format.specs.Judging.{shift}
use Rattle.format.specs.Report.{rows_in, placed, be4, verdict_byte, refusal, refusal_bytes, concat, report_answer, report_left}
use Rattle.second.specs.Items.{Near}
use Rattle.std.specs.Prelude.{Ok, Result}
use Rattle.format.specs.declared.Refusal.{Refusal}

-- the form of a stream by the elements of its units
unfoldable pub form_of : ℕ → Form
form_of unit = pick (eqb unit 4) Text Binary

-- a stream within the limit, and a text with its sextets and as many items
pub record Given (unit : ℕ) (s t : List ℕ) : Type 0 where
  pub form : unit ≡ (domain (form_of unit)).unit
  pub few : length s ≤ (domain (form_of unit)).limit
  pub long : length t ≤ 4194304
  pub same : text_sextets t ≡ (domain (form_of unit)).sextets s
  pub items : length (rows_in text t) ≡ length (rows_in (domain (form_of unit)) s)

-- a call's answer, and what it leaves
pub record Answered (f : Form) (s out : List ℕ) (r : Result ℕ (Refusal ℕ)) (out' : List ℕ) : Type 0 where
  pub answer : r ≡ report_answer (domain f) s (length out)
  pub left : out' ≡ report_left r (domain f) s out

-- ---- an item

-- the verdict on the item at a unit, its place counted from the stream's start
unfoldable pub verdict_at : ℕ → ℕ → Verdict → Verdict
verdict_at unit start v = shift (start * unit) (placed unit v)

-- numbers that fit, and room for the i-th row and at p for a refusal's
pub record Row (unit start size : ℕ) (v : Verdict) (i p room : ℕ) : Type 0 where
  pub four : unit ≤ 4
  pub here : start ≤ 1048576
  pub few : size ≤ 1048576
  pub near : Near 4194312 v
  pub behind : 13 + 9 * i ≤ p
  pub fits : p + 9 ≤ room

unfoldable pub item_left : ℕ → ℕ → ℕ → Verdict → ℕ → ℕ → List ℕ → List ℕ
item_left unit start size v i p out =
    sets (sets out (4 + 9 * i) (be4 (unit * start) ++ (be4 (unit * size) ++ (verdict_byte (verdict_at unit start v) ∷ [])))) p
    (concat refusal_bytes (refusal i (verdict_at unit start v)))

-- how many refusals were stored, and what is left
pub record Put (unit start size : ℕ) (v : Verdict) (i p : ℕ) (out : List ℕ) (r : ℕ) (out' : List ℕ) : Type 0 where
  pub refusals : r ≡ length (refusal i (verdict_at unit start v))
  pub left : out' ≡ item_left unit start size v i p out

-- ---- the end

-- behind the rows of n items and k refusals: the two counts, and a remainder if there is one
unfoldable pub end_answer : ℕ → ℕ → ℕ → Result ℕ (Refusal ℕ)
end_answer n k rest = pick (eqb rest 0) (Ok (12 + 9 * n + 9 * k)) (Ok (17 + 9 * n + 9 * k))

unfoldable pub end_left : ℕ → ℕ → ℕ → ℕ → ℕ → List ℕ → List ℕ
end_left n k rest offset number out =
    sets (sets out (4 + 9 * n) (be4 k)) (8 + 9 * n + 9 * k) (pick (eqb rest 0) (be4 0) (be4 1 ++ (be4 offset ++ (number ∷ []))))

pub record Ended (n k rest offset number : ℕ) (out : List ℕ) (r : Result ℕ (Refusal ℕ)) (out' : List ℕ) : Type 0 where
  pub answer : r ≡ end_answer n k rest
  pub left : out' ≡ end_left n k rest offset number out
