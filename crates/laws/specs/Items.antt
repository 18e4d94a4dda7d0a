-- The report's rows and remainder of a stream of a domain, item by item. Assumes nothing.
use Rattle.std.specs.Prelude.{ℕ, ◌+◌, ◌*◌, ◌≤◌, ◌<◌, ◌≡◌, List, [], ◌∷◌, take, drop}
use Rattle.std.proofs.Math.Path.{ap, subst}
use Rattle.std.proofs.Math.ListN.{length}
use Rattle.format.specs.declared.Kind.{Kind}
use Rattle.format.specs.declared.Framed.TheVariants.{Item, Unframed}
use Rattle.format.specs.Units.{Domain}
use Rattle.format.specs.Framing.{frame_ruled}
use Rattle.format.specs.Cutting.{cut}
use Rattle.format.specs.Judging.{shift}
use Rattle.format.specs.Report.{ItemRow, RemainderRow, rows_of, remainder_of, frame_in, judge_in}
use Rattle.damage.proofs.Cuts as C
use Rattle.damage.proofs.Damage as D
use Rattle.laws.specs.Domains.{Reader}
use Rattle.laws.specs.Framing.{unscale}
use Rattle.laws.specs.Frames.{frames}

-- of xs, which stands at offset o
abbrev pub rows_at : Domain → ℕ → List ℕ → List ItemRow
rows_at d o xs = rows_of (judge_in d) o (cut (frame_in d) xs)

abbrev pub left_at : Domain → ℕ → List ℕ → List RemainderRow
left_at d o xs = remainder_of o (cut (frame_in d) xs)

-- its first item, of n elements
abbrev pub first_row : Domain → ℕ → List ℕ → ℕ → ItemRow
first_row d o xs n = record { offset = o; size = n; verdict = shift o (judge_in d (take n xs)) }

module _ (d : Domain) (R : Reader d) where
  pub by-items {ℓ} : (P : List ℕ → Type ℓ) → P []
      → ((xs : List ℕ) (n p : ℕ) → frame_in d xs ≡ Unframed n p → 0 < length xs → P xs)
      → ((xs : List ℕ) (k : Kind) (h n : ℕ) → frame_in d xs ≡ Item k h n → P (drop n xs) → P xs)
      → (xs : List ℕ) → P xs
  by-items = C.by-items (frame_in d) (frames d R)

  pub rows-nil : (o : ℕ) → rows_at d o [] ≡ []
  unfolding rows_of
  rows-nil o = ap (rows_of (judge_in d) o) (C.cut-nil (frame_in d) (frames d R))

  pub left-nil : (o : ℕ) → left_at d o [] ≡ []
  unfolding remainder_of
  left-nil o = ap (remainder_of o) (C.cut-nil (frame_in d) (frames d R))

  pub rows-refused : (o : ℕ) (xs : List ℕ) {n p : ℕ} → 0 < length xs → frame_in d xs ≡ Unframed n p → rows_at d o xs ≡ []
  unfolding rows_of
  rows-refused o xs pos f = ap (rows_of (judge_in d) o) (C.cut-refused (frame_in d) (frames d R) xs pos f)

  pub left-refused : (o : ℕ) (xs : List ℕ) {n p : ℕ} → 0 < length xs → frame_in d xs ≡ Unframed n p
      → left_at d o xs ≡ record { offset = o; number = n } ∷ []
  unfolding remainder_of
  left-refused o xs pos f = ap (remainder_of o) (C.cut-refused (frame_in d) (frames d R) xs pos f)

  pub rows-item : (o : ℕ) (xs : List ℕ) {k : Kind} {h n : ℕ} → frame_in d xs ≡ Item k h n
      → rows_at d o xs ≡ first_row d o xs n ∷ rows_at d (o + n) (drop n xs)
  rows-item = D.rows-item (frame_in d) (judge_in d) (frames d R)

  pub left-item : (o : ℕ) (xs : List ℕ) {k : Kind} {h n : ℕ} → frame_in d xs ≡ Item k h n → left_at d o xs ≡ left_at d (o + n) (drop n xs)
  left-item = D.remainder-item (frame_in d) (judge_in d) (frames d R)

  -- an item is whole units
  pub item-units : (xs : List ℕ) (k : Kind) (h n : ℕ) → frame_in d xs ≡ Item k h n → (m : ℕ) × (n ≡ m * d.unit) × (m * d.unit ≤ length xs)
  unfolding frame_in
  item-units xs k h n e =
      let q = unscale d.unit (frame_ruled (d.sextets xs)) e in
      (q.1, q.4, subst (λ (m : ℕ). m ≤ length xs) q.4 ((frames d R).within xs k h n e).2)
