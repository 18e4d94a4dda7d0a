-- What demands 2 and 3 speak of. No proofs. Assumes nothing.
use Rattle.std.specs.Prelude.{ℕ, ◌*◌, ◌%◌, ◌≤◌, ◌≡◌, List, [], ◌∷◌, length, drop, leb, eqb}
use Rattle.base.specs.Pick.{pick}
use Rattle.base.specs.Digits.{Below}
use Rattle.format.specs.declared.Verdict.{Verdict}
use Rattle.format.specs.declared.Verdict.TheVariants.{Accepted, Refused}
use Rattle.format.specs.Alphabet.{within}
use Rattle.format.specs.Units.{text, binary, text_sextets}
use Rattle.format.specs.Report.{ItemRow, RefusalRow, RemainderRow, rows_in, refusals_in, remainder_in}

-- ---- the premise

-- "a text one of whole quadlets in the alphabet, within the length limit"
pub record WholeText (t : List ℕ) : Type 0 where
  pub quadlets : length t % 4 ≡ 0
  pub alphabet : Below 64 (text_sextets t)
  pub short : length t ≤ text.limit

-- "A binary stream of whole triplets, within the length limit"
pub record WholeBinary (b : List ℕ) : Type 0 where
  pub triplets : length b % 3 ≡ 0
  pub bytes : Below 256 b
  pub short : length b ≤ binary.limit

-- ---- "offsets, sizes and places in the ratio four to three"

-- p in text is to q in binary as four to three
abbrev pub Ratio : ℕ → ℕ → Type 0
Ratio p q = 3 * p ≡ 4 * q

-- both accepted, or both refused with the same number
abbrev pub VerdictRatio : Verdict → Verdict → Type 0
VerdictRatio Accepted Accepted = Unit {0}
VerdictRatio Accepted (Refused m q) = ⊥
VerdictRatio (Refused n p) Accepted = ⊥
VerdictRatio (Refused n p) (Refused m q) = (n ≡ m) × Ratio p q

abbrev pub ItemRatio : ItemRow → ItemRow → Type 0
ItemRatio r s = Ratio r.offset s.offset × Ratio r.size s.size × VerdictRatio r.verdict s.verdict

abbrev pub RefusalRatio : RefusalRow → RefusalRow → Type 0
RefusalRatio r s = (r.index ≡ s.index) × (r.number ≡ s.number) × Ratio r.place s.place

abbrev pub RemainderRatio : RemainderRow → RemainderRow → Type 0
RemainderRatio r s = Ratio r.offset s.offset × (r.number ≡ s.number)

-- as many of each, and the k-th with the k-th
abbrev pub Pairwise {ℓ} : {A : Type ℓ} → (A → A → Type 0) → List A → List A → Type 0
Pairwise R [] [] = Unit {0}
Pairwise R [] (y ∷ ys) = ⊥
Pairwise R (x ∷ xs) [] = ⊥
Pairwise R (x ∷ xs) (y ∷ ys) = R x y × Pairwise R xs ys

-- "its report is the same in text and binary": section by section and row by row
pub record SameReport (t b : List ℕ) : Type 0 where
  pub items : Pairwise ItemRatio (rows_in text t) (rows_in binary b)
  pub refused : Pairwise RefusalRatio (refusals_in text t) (refusals_in binary b)
  pub left : Pairwise RemainderRatio (remainder_in text t) (remainder_in binary b)

-- ---- headers

-- "A header is the first unit, or the first two for selectors `7` `8` `9` and codes `--` `-◌`": its units by the first two sextets; 59 to
-- 61 are `7` `8` `9`, 62 is `-`, 63 is `_`
unfoldable pub header_of : ℕ → ℕ → ℕ
header_of a b = pick (within 59 61 a) 2 (pick (eqb a 62) (pick (leb 62 b) 2 1) 1)

-- ---- a stream's parts

-- "then any remainder": its bytes
unfoldable pub remainder_at : List RemainderRow → List ℕ → List ℕ
remainder_at [] xs = []
remainder_at (r ∷ rs) xs = drop r.offset xs
