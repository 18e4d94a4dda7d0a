-- What a buffer holds after an item's rows are stored, and that this is a row of ten bytes and the refusal's. Assumes nothing.
use Rattle.std.specs.Prelude.{ℕ, ◌+◌, ◌≤◌, ◌≡◌, refl, List, [], ◌∷◌, ◌++◌, length}
use Rattle.std.proofs.Common.{ap, ◌∙◌, arith}
use Rattle.std.proofs.lemmas.List.Edits.{sets}
use Rattle.std.proofs.Math.Seq.{length-sets}
use Rattle.format.specs.declared.Verdict.{Verdict}
use Rattle.format.specs.Report.{ItemRow, be4, row_bytes, refusal_bytes, concat, refusal, verdict_byte}
use Rattle.filling.specs.Stores.{row_with, sets-append, sets-comm, row-long}
use Rattle.report_rows.specs.Stores.{put, put-fits}
use Rattle.mixed.specs.Mixed.{start_at, form_byte, mixed_row_bytes}

-- the row but for its last byte, the refusal's row, and the last byte
unfoldable pub item_put : List ℕ → ℕ → ℕ → ℕ → ℕ → ℕ → Verdict → ℕ → List ℕ
item_put out at to index offset size v form =
    put (put (put out at (be4 offset ++ (be4 size ++ (verdict_byte v ∷ [])))) to (concat refusal_bytes (refusal index v))) (at + 9) (form ∷ [])

pub row-ten : (xs : List ℕ) (r : ItemRow) → length (mixed_row_bytes xs r) ≡ 10
unfolding mixed_row_bytes row_bytes be4
row-ten xs r = refl

-- where they fit, and the row lies in front of the refusal's
pub item-put : (xs out : List ℕ) (at to index offset size : ℕ) (v : Verdict) → at + 10 ≤ to → to + length (concat refusal_bytes (refusal index v)) ≤ length out
    → item_put out at to index offset size v (form_byte (start_at xs offset))
    ≡ sets (sets out at (mixed_row_bytes xs (row_with offset size v))) to (concat refusal_bytes (refusal index v))
unfolding item_put mixed_row_bytes row_bytes
item-put xs out at to index offset size v h g =
    let row : List ℕ = row_bytes (row_with offset size v) in
    let R : List ℕ = concat refusal_bytes (refusal index v) in
    let form : List ℕ = form_byte (start_at xs offset) ∷ [] in
    let nine : length row ≡ 9 = row-long (row_with offset size v) in
    let a : put out at row ≡ sets out at row = put-fits out at row (omega arith) in
    let la = length-sets out at row in
    let b : put (sets out at row) to R ≡ sets (sets out at row) to R = put-fits (sets out at row) to R (omega arith) in
    let lb = length-sets (sets out at row) to R in
    let c : put (sets (sets out at row) to R) (at + 9) form ≡ sets (sets (sets out at row) to R) (at + 9) form =
    put-fits (sets (sets out at row) to R) (at + 9) form (omega arith) in
    let z : at + 9 ≡ at + length row = omega arith in
    ap (λ (l : List ℕ). put (put l to R) (at + 9) form) (bytes-are ∙ a)
    ∙ ap (λ (l : List ℕ). put l (at + 9) form) b
    ∙ c
    ∙ sets-comm (sets out at row) (at + 9) form to R (omega arith)
    ∙ ap (λ (j : ℕ). sets (sets (sets out at row) j form) to R) z
    ∙ ap (λ (l : List ℕ). sets l to R) (sets-append out at row form)
  where
    bytes-are : put out at (be4 offset ++ (be4 size ++ (verdict_byte v ∷ []))) ≡ put out at (row_bytes (row_with offset size v))
    bytes-are = refl
