-- What the indexed table opens, by the first two sextets: one of the twelve rows, or nothing. Assumes nothing.
use Rattle.std.specs.Prelude.{ℕ, zero, suc, ◌+◌, ◌%◌, ◌<◌, ◌≤◌, ◌≡◌, refl, List, [], ◌∷◌, Bool, true, false, ◌⊎◌, ltb, eqb}
use Rattle.std.proofs.Common.{ap, ◌∙◌, inl, inr, ⊎_elim, arith}
use borrow.Author.Tests.{ltb-true, ltb-false, eqb-true, eqb-false, ne_eqb}
use Rattle.base.specs.Pick.{pick, pick-by}
use Rattle.base.specs.Cases.{lt-or-ge}
use Rattle.format.specs.declared.IndexRow.{IndexRow}
use Rattle.format.specs.declared.Opening.{Opening}
use Rattle.format.specs.declared.Opening.TheVariants.{Unknown}
use Rattle.format.specs.Registry.{letter_indexed, zero_indexed, two_indexed, three_indexed, indexed_codes, index_head, indexed_row, indexed_among, indexed_by}
use Rattle.format.specs.Registry.{indexed_opening}
use Rattle.claims_indexed.specs.Words.{OneOf, IndexedStart}

-- the row of a code that starts so; those with an odd letter are "current only"
pub data RowOf (a b : ℕ) (c : IndexRow) : Type 0 where
  letter : a < 4 → c ≡ letter_indexed a (a % 2) → RowOf a b c
  after-0 : a ≡ 52 → b < 2 → c ≡ zero_indexed b (b % 2) → RowOf a b c
  after-2 : a ≡ 54 → b < 4 → c ≡ two_indexed b (b % 2) → RowOf a b c
  after-3 : a ≡ 55 → b < 2 → c ≡ three_indexed b (b % 2) → RowOf a b c

pub data Opened (a b : ℕ) (o : Opening) : Type 0 where
  nothing : (IndexedStart a b → ⊥) → o ≡ Unknown → Opened a b o
  row : (c : IndexRow) → RowOf a b c → o ≡ indexed_row c → Opened a b o

-- ---- the searches

letter-row : (l : ℕ) → l < 4 → indexed_by 0 l ≡ indexed_row (letter_indexed l (l % 2))
unfolding indexed_by indexed_among indexed_codes
letter-row zero h = refl
letter-row (suc zero) h = refl
letter-row (suc (suc zero)) h = refl
letter-row (suc (suc (suc zero))) h = refl
letter-row (suc (suc (suc (suc l)))) h = absurd (omega arith)

zero_row : (l : ℕ) → l < 2 → indexed_by 52 l ≡ indexed_row (zero_indexed l (l % 2))
unfolding indexed_by indexed_among indexed_codes
zero_row zero h = refl
zero_row (suc zero) h = refl
zero_row (suc (suc l)) h = absurd (omega arith)

two-row : (l : ℕ) → l < 4 → indexed_by 54 l ≡ indexed_row (two_indexed l (l % 2))
unfolding indexed_by indexed_among indexed_codes
two-row zero h = refl
two-row (suc zero) h = refl
two-row (suc (suc zero)) h = refl
two-row (suc (suc (suc zero))) h = refl
two-row (suc (suc (suc (suc l)))) h = absurd (omega arith)

three-row : (l : ℕ) → l < 2 → indexed_by 55 l ≡ indexed_row (three_indexed l (l % 2))
unfolding indexed_by indexed_among indexed_codes
three-row zero h = refl
three-row (suc zero) h = refl
three-row (suc (suc l)) h = absurd (omega arith)

-- no letter behind them
letter-none : (l : ℕ) → 4 ≤ l → indexed_by 0 l ≡ Unknown
unfolding indexed_by indexed_among indexed_codes
letter-none l h =
    rw (ne_eqb 0 l (λ e. omega arith), ne_eqb 1 l (λ e. omega arith), ne_eqb 2 l (λ e. omega arith), ne_eqb 3 l (λ e. omega arith))

zero-none : (l : ℕ) → 2 ≤ l → indexed_by 52 l ≡ Unknown
unfolding indexed_by indexed_among indexed_codes
zero-none l h = rw (ne_eqb 0 l (λ e. omega arith), ne_eqb 1 l (λ e. omega arith))

two_none : (l : ℕ) → 4 ≤ l → indexed_by 54 l ≡ Unknown
unfolding indexed_by indexed_among indexed_codes
two_none l h =
    rw (ne_eqb 0 l (λ e. omega arith), ne_eqb 1 l (λ e. omega arith), ne_eqb 2 l (λ e. omega arith), ne_eqb 3 l (λ e. omega arith))

three-none : (l : ℕ) → 2 ≤ l → indexed_by 55 l ≡ Unknown
unfolding indexed_by indexed_among indexed_codes
three-none l h = rw (ne_eqb 0 l (λ e. omega arith), ne_eqb 1 l (λ e. omega arith))

-- ---- the first unit

module _ (a b : ℕ) where
  no_start : (a < 4 → ⊥) → (a ≡ 52 → b < 2 → ⊥) → (a ≡ 54 → b < 4 → ⊥) → (a ≡ 55 → b < 2 → ⊥) → IndexedStart a b → ⊥
  no_start p q r t (inl h) = p h
  no_start p q r t (inr (inl h)) = q h.0 h.1
  no_start p q r t (inr (inr (inl h))) = r h.0 h.1
  no_start p q r t (inr (inr (inr h))) = t h.0 h.1

  by-letter : a < 52 → Opened a b (indexed_by 0 a)
  by-letter l =
      ⊎_elim (λ h. row (letter_indexed a (a % 2)) (letter h refl) (letter-row a h))
      (λ h. nothing (no_start (λ g. omega arith) (λ e _. omega arith) (λ e _. omega arith) (λ e _. omega arith)) (letter-none a h))
      (lt-or-ge a 4)

  by_zero : a ≡ 52 → Opened a b (indexed_by 52 b)
  by_zero e =
      ⊎_elim (λ h. row (zero_indexed b (b % 2)) (after-0 e h refl) (zero_row b h))
      (λ h. nothing (no_start (λ g. omega arith) (λ _ g. omega arith) (λ f _. omega arith) (λ f _. omega arith)) (zero-none b h))
      (lt-or-ge b 2)

  by_two : a ≡ 54 → Opened a b (indexed_by 54 b)
  by_two e =
      ⊎_elim (λ h. row (two_indexed b (b % 2)) (after-2 e h refl) (two-row b h))
      (λ h. nothing (no_start (λ g. omega arith) (λ f _. omega arith) (λ _ g. omega arith) (λ f _. omega arith)) (two_none b h))
      (lt-or-ge b 4)

  by_three : a ≡ 55 → Opened a b (indexed_by 55 b)
  by_three e =
      ⊎_elim (λ h. row (three_indexed b (b % 2)) (after-3 e h refl) (three-row b h))
      (λ h. nothing (no_start (λ g. omega arith) (λ f _. omega arith) (λ f _. omega arith) (λ _ g. omega arith)) (three-none b h))
      (lt-or-ge b 2)

  pub opened : (c d : ℕ) → Opened a b (indexed_opening a b c d)
  unfolding indexed_opening
  opened c d =
      pick-by (Opened a b) (ltb a 52) _ _ (λ e. by-letter (ltb-true a 52 e)) (λ l.
      pick-by (Opened a b) (eqb a 52) _ _ (λ e. by_zero (eqb-true a 52 e)) (λ z.
      pick-by (Opened a b) (eqb a 54) _ _ (λ e. by_two (eqb-true a 54 e)) (λ t.
      pick-by (Opened a b) (eqb a 55) _ _ (λ e. by_three (eqb-true a 55 e))
      (λ u. nothing (no_start (λ g. omega (arith, ltb-false a 52 l)) (λ e _. eqb-false a 52 z e) (λ e _. eqb-false a 54 t e) (λ e _. eqb-false a 55 u e)) refl))))

-- ---- one of the twelve

pub one_of : (a b : ℕ) (c : IndexRow) → RowOf a b c → OneOf c indexed_codes
unfolding indexed_codes
one_of zero b c (letter h e) = inl e
one_of (suc zero) b c (letter h e) = inr (inl e)
one_of (suc (suc zero)) b c (letter h e) = inr (inr (inl e))
one_of (suc (suc (suc zero))) b c (letter h e) = inr (inr (inr (inl e)))
one_of (suc (suc (suc (suc a)))) b c (letter h e) = absurd (omega arith)
one_of a zero c (after-0 s h e) = inr (inr (inr (inr (inl e))))
one_of a (suc zero) c (after-0 s h e) = inr (inr (inr (inr (inr (inl e)))))
one_of a (suc (suc b)) c (after-0 s h e) = absurd (omega arith)
one_of a zero c (after-2 s h e) = inr (inr (inr (inr (inr (inr (inl e))))))
one_of a (suc zero) c (after-2 s h e) = inr (inr (inr (inr (inr (inr (inr (inl e)))))))
one_of a (suc (suc zero)) c (after-2 s h e) = inr (inr (inr (inr (inr (inr (inr (inr (inl e))))))))
one_of a (suc (suc (suc zero))) c (after-2 s h e) = inr (inr (inr (inr (inr (inr (inr (inr (inr (inl e)))))))))
one_of a (suc (suc (suc (suc b)))) c (after-2 s h e) = absurd (omega arith)
one_of a zero c (after-3 s h e) = inr (inr (inr (inr (inr (inr (inr (inr (inr (inr (inl e))))))))))
one_of a (suc zero) c (after-3 s h e) = inr (inr (inr (inr (inr (inr (inr (inr (inr (inr (inr (inl e)))))))))))
one_of a (suc (suc b)) c (after-3 s h e) = absurd (omega arith)
