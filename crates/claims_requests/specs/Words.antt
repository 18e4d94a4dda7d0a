-- What 02 g speaks of. No proofs. Assumes nothing.
use Rattle.std.specs.Prelude.{ℕ, ◌≡◌, List, [], ◌∷◌, ◌++◌}
use Rattle.format.specs.declared.Verdict.{Verdict}
use Rattle.format.specs.Units.{Domain}
use Rattle.format.specs.Judging.{judge}
use Rattle.format.specs.Report.{RefusalRow, rows, refusals, remainder}
use Rattle.format.specs.Report.{placed, frame_in, row_bytes, refusal_bytes, remainder_bytes, section}

-- ---- a limit of nesting

-- the verdict on an item's own bytes, where l groups may be entered
unfoldable pub judge_to : ℕ → Domain → List ℕ → Verdict
judge_to l d xs = placed d.unit (judge l (d.sextets xs))

abbrev pub refusals_to : ℕ → Domain → List ℕ → List RefusalRow
refusals_to l d xs = refusals (frame_in d) (judge_to l d) xs

-- the report, where l groups may be entered
unfoldable pub report_to : ℕ → Domain → List ℕ → List ℕ
report_to l d xs =
    section row_bytes (rows (frame_in d) (judge_to l d) xs)
    ++ (section refusal_bytes (refusals_to l d xs)
    ++ section remainder_bytes (remainder (frame_in d) (judge_to l d) xs))

-- "held no 11": no refusal row has it
abbrev pub NoEleven : List RefusalRow → Type 0
NoEleven [] = Unit {0}
NoEleven (r ∷ rs) = (r.number ≡ 11 → ⊥) × NoEleven rs
