-- Laws of the stores' code. Assumes nothing.
use Prim.Native.Nat.{ℕ, ◌+◌}
use mathlib.Core.Path.{◌≡◌, refl, sym, ◌∙◌}
use mathlib.Core.List.{List, [], ◌∷◌, ◌++◌, append-nil}
use native.Mathlib.Omega.{arith}
use lib.ListN.{length}
use lib.Seq.{sets}
use Rattle.format.specs.declared.Verdict.{Verdict}
use Rattle.format.specs.declared.Verdict.TheVariants.{Accepted, Refused}
use Rattle.format.specs.Report.{be4, verdict_byte, refusal_bytes, refusal, concat}
use Rattle.filling.specs.Stores.{be4-long, sets-append}
use Rattle.report_rows.specs.Stores.{put, none-put}

-- ---- an item, accepted or refused

module _ (out : List ℕ) (at to i o n : ℕ) (v : Verdict) where
  pub item-good : {after : List ℕ} → v ≡ Accepted → after ≡ put out at (be4 o ++ (be4 n ++ (0 ∷ [])))
      → (0 ≡ length (refusal i v)) × (after ≡ put (put out at (be4 o ++ (be4 n ++ (verdict_byte v ∷ [])))) to (concat refusal_bytes (refusal i v)))
  unfolding refusal concat verdict_byte
  item-good e f = rw e (refl, f ∙ sym (none-put _ to))

  pub item-bad : {mid after : List ℕ} (m p : ℕ) → v ≡ Refused m p → mid ≡ put out at (be4 o ++ (be4 n ++ (m ∷ []))) → after ≡ put mid to (be4 i ++ (m ∷ be4 p))
      → (1 ≡ length (refusal i v)) × (after ≡ put (put out at (be4 o ++ (be4 n ++ (verdict_byte v ∷ [])))) to (concat refusal_bytes (refusal i v)))
  unfolding refusal refusal_bytes concat verdict_byte
  item-bad m p e f g = rw e (refl, g ∙ rw (f, append-nil))

-- ---- a row, number by number

-- the offset, then the size and the number
pub row_put : (out : List ℕ) (at o n b : ℕ) {one two : List ℕ} → one ≡ sets out at (be4 o) → two ≡ sets one (at + 4) (be4 n ++ (b ∷ []))
    → two ≡ sets out at (be4 o ++ (be4 n ++ (b ∷ [])))
row_put out at o n b e f =
    let x : at + 4 ≡ at + length (be4 o) = omega (arith, be4-long o) in
    f ∙ rw (e, x) (sets-append out at (be4 o) (be4 n ++ (b ∷ [])))
