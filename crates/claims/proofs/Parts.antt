-- A stream's parts, its items and then its remainder: a conversion that goes unit by unit converts them one by one, and what
-- whole units keep, each of them keeps. Assumes nothing.
use Rattle.std.specs.Prelude.{ℕ, zero, suc, ◌+◌, ◌*◌, ◌≤◌, ◌<◌, ◌≡◌, length, take, drop}
use Rattle.std.proofs.Math.Path.{refl, ap}
use Rattle.std.proofs.Common.{sym, ◌∙◌, subst, arith, drop-drop}
use mathlib.Core.List.{List, [], ◌∷◌, ◌++◌, append_assoc}
use Rattle.format.specs.declared.Kind.{Kind}
use Rattle.format.specs.declared.Framed.TheVariants.{Item, Unframed}
use Rattle.format.specs.Units.{Domain}
use Rattle.format.specs.Report.{rows, remainder, rows_in, remainder_in, frame_in, concat}
use Rattle.damage.specs.Words.{item_at, row}
use Rattle.laws.specs.Domains.{Reader}
use Rattle.laws.specs.Items.{rows_at, left_at, first_row, by-items, item-units}
use Rattle.laws.specs.Items.{rows-nil, left-nil, rows-refused, left-refused, rows-item, left-item}
use Rattle.claims.specs.Words.{remainder_at}

module _ (d : Domain) (R : Reader d) where
  -- a law of whole units is one of items
  of-item : (xs : List ℕ) (P : ℕ → Type 0) → ((m : ℕ) → m * d.unit ≤ length xs → P (m * d.unit))
      → (k : Kind) (h n : ℕ) → frame_in d xs ≡ Item k h n → P n
  of-item xs P f k h n e = let q = item-units d R xs k h n e in subst P (sym q.1) (f q.0 q.2)

  -- ---- a conversion

  module _ (conv : List ℕ → List ℕ)
      (join : (xs : List ℕ) (k : ℕ) → k * d.unit ≤ length xs
      → conv xs ≡ conv (take (k * d.unit) xs) ++ conv (drop (k * d.unit) xs)) where
    module _ (zs : List ℕ) where
      abbrev Joined : List ℕ → Type 0
      Joined xs = (o : ℕ) → drop o zs ≡ xs
          → conv xs ≡ concat (λ r. conv (item_at zs r)) (rows_at d o xs) ++ conv (remainder_at (left_at d o xs) zs)

      joined-nil : Joined []
      unfolding concat remainder_at
      joined-nil o e = rw (rows-nil d R o, left-nil d R o)

      joined-refused : (xs : List ℕ) (n p : ℕ) → frame_in d xs ≡ Unframed n p → 0 < length xs → Joined xs
      unfolding concat remainder_at
      joined-refused xs n p f pos o e = rw (rows-refused d R o xs pos f, left-refused d R o xs pos f) (ap conv (sym e))

      joined-item : (xs : List ℕ) (k : Kind) (h n : ℕ) → frame_in d xs ≡ Item k h n → Joined (drop n xs) → Joined xs
      unfolding concat
      joined-item xs k h n f ih o e =
          let more = ih (o + n) (sym (drop-drop n o zs) ∙ ap (drop n) e) in
          rw (rows-item d R o xs f, left-item d R o xs f, e, append_assoc, ← more)
          (of-item xs (λ m. conv xs ≡ conv (take m xs) ++ conv (drop m xs)) (join xs) k h n f)

    pub one_by_one : (xs : List ℕ)
        → conv xs ≡ concat (λ r. conv (item_at xs r)) (rows_in d xs) ++ conv (remainder_at (remainder_in d xs) xs)
    unfolding rows remainder
    one_by_one xs = by-items d R (Joined xs) (joined-nil xs) (joined-refused xs) (joined-item xs) xs 0 refl

  -- ---- a property

  module _ (P : List ℕ → Type 0) (nil : P [])
      (takes : (xs : List ℕ) (k : ℕ) → k * d.unit ≤ length xs → P xs → P (take (k * d.unit) xs))
      (drops : (xs : List ℕ) (k : ℕ) → k * d.unit ≤ length xs → P xs → P (drop (k * d.unit) xs)) where
    module _ (zs : List ℕ) where
      abbrev Keeps : List ℕ → ℕ → Type 0
      Keeps xs o = ((j : ℕ) → j < length (rows_at d o xs) → P (item_at zs (row (rows_at d o xs) j))) × P (remainder_at (left_at d o xs) zs)

      abbrev Kept : List ℕ → Type 0
      Kept xs = (o : ℕ) → drop o zs ≡ xs → P xs → Keeps xs o

      kept-nil : Kept []
      unfolding remainder_at
      kept-nil o e p = rw (rows-nil d R o, left-nil d R o) (λ j l. absurd (omega arith), nil)

      kept-refused : (xs : List ℕ) (n p : ℕ) → frame_in d xs ≡ Unframed n p → 0 < length xs → Kept xs
      unfolding remainder_at
      kept-refused xs n p f pos o e q =
          rw (rows-refused d R o xs pos f, left-refused d R o xs pos f) (λ j l. absurd (omega arith), rw e q)

      kept-item : (xs : List ℕ) (k : Kind) (h n : ℕ) → frame_in d xs ≡ Item k h n → Kept (drop n xs) → Kept xs
      kept-item xs k h n f ih o e p =
          let first : P (take n xs) = of-item xs (λ m. P (take m xs)) (λ m l. takes xs m l p) k h n f in
          let behind : P (drop n xs) = of-item xs (λ m. P (drop m xs)) (λ m l. drops xs m l p) k h n f in
          let next : Keeps (drop n xs) (o + n) = ih (o + n) (sym (drop-drop n o zs) ∙ ap (drop n) e) behind in
          rw (rows-item d R o xs f, left-item d R o xs f) (go first next, next.1)
        where
          go : P (take n xs) → Keeps (drop n xs) (o + n) → (j : ℕ) → j < suc (length (rows_at d (o + n) (drop n xs)))
              → P (item_at zs (row (first_row d o xs n ∷ rows_at d (o + n) (drop n xs)) j))
          go first next zero l = rw e first
          go first next (suc j) l = next.0 j (omega arith)

    pub every-part : (xs : List ℕ) → P xs
        → ((j : ℕ) → j < length (rows_in d xs) → P (item_at xs (row (rows_in d xs) j))) × P (remainder_at (remainder_in d xs) xs)
    unfolding rows remainder
    every-part xs p = by-items d R (Kept xs) (kept-nil xs) (kept-refused xs) (kept-item xs) xs 0 refl p
