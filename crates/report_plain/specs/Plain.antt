-- What is asked of items that begin alike to be plain primitives. Assumes nothing.
use Rattle.std.specs.Prelude.{ℕ, ◌+◌, ◌-◌, ◌*◌, ◌/◌, ◌≤◌, ◌<◌, ◌≡◌, true, List, length, get_or}
use Rattle.std.proofs.lemmas.List.Edits.{sets}
use Rattle.format.specs.declared.Form.{Form}
use Rattle.format.specs.Alphabet.{sextet_table}
use Rattle.format.specs.Units.{domain}
use Rattle.format.specs.Report.{row_bytes, concat}
use Rattle.runs.specs.Plain.{plain_table, plain_at}
use Rattle.runs.specs.Runs.{Run}
use Rattle.filling.specs.Stores.{run_of}
use Rattle.report_alike.specs.Alike.{is_alike}

-- wherever an item of a stream begins with x, and as the limit says, it is a plain primitive of so many units; 0 says nothing
abbrev pub Like : Form → List ℕ → List ℕ → ℕ → ℕ → ℕ → Type 0
Like f values rows x size limit =
    0 < limit → values ≡ sextet_table → rows ≡ plain_table → (s : List ℕ) → ((j : ℕ) → get_or s j 0 < 256) → (i : ℕ) → i < length s / (domain f).unit
    → is_alike f values s x limit ((domain f).unit * i) ≡ true → plain_at plain_table ((domain f).sextets s) i ≡ size

-- an item of so many units at a unit, and an end behind it that is within the stream
pub record Behind (f : Form) (s : List ℕ) (at size end : ℕ) : Type 0 where
  pub first : at < end
  pub fits : at + size ≤ end
  pub inside : end ≤ length s / (domain f).unit

-- so many plain primitives behind the item, up to that end, and their rows stored
pub record Followed (f : Form) (values rows s : List ℕ) (at size end : ℕ) (out : List ℕ) (row r : ℕ) (out' : List ℕ) : Type 0 where
  pub few : r * size ≤ end - (at + size)
  pub run : 0 < size → values ≡ sextet_table → rows ≡ plain_table → Run (plain_at plain_table ((domain f).sextets s)) size end (at + size) r
  pub stored : out' ≡ sets out row (concat row_bytes (run_of ((domain f).unit * (at + size)) ((domain f).unit * size) r))
