-- An indexed item that its first unit tells is accepted, its characters known. Assumes nothing.
use Prim.Native.Nat.{ℕ, zero, suc, ◌+◌, ◌*◌, ◌≤◌, ◌<◌}
use Rattle.std.specs.Prelude.{◌≡◌, refl, Bool, false, ltb, eqb, length, get_or, take, drop}
use Rattle.std.proofs.Math.Path.{sym}
use Rattle.std.proofs.Common.{◌∙◌, arith, get_or-drop, ltb-true, eqb-true, eq-eqb, ne_eqb}
use mathlib.Core.List.{List, [], ◌∷◌}
use Rattle.std.proofs.Math.Bool.{true}
use Rattle.base.specs.Pick.{pick}
use Rattle.base.specs.Digits.{Below, number_of, below-drop}
use Rattle.format.specs.declared.IndexRow.{IndexRow}
use Rattle.format.specs.declared.Kind.TheVariants.{Indexed}
use Rattle.format.specs.declared.Opening.TheVariants.{Short}
use Rattle.format.specs.declared.Verdict.{Verdict}
use Rattle.format.specs.declared.Verdict.TheVariants.{Accepted}
use Rattle.format.specs.Registry.{letter_indexed, zero_indexed, indexed_codes, index_chars, index_head, indexed_row, indexed_among, indexed_by, indexed_opening}
use Rattle.format.specs.Framing.{sextet, ruled}
use Rattle.format.specs.Values.{ondex_of}
use Rattle.format.specs.Judging.{shift, and_then, unless, behind, zero_bits, ondex_right, judge_kind, group}
use Rattle.laws.specs.Scan.{scan-below}
use Rattle.laws.specs.Levels.{part, Taken}
use Rattle.runs.specs.Opened.{some_then, all-low, zero-by}
use Rattle.runs.specs.Levels.{Clear, clear-part, part-at, part-head, told_part, frame-short, next-short, in-part}
use Rattle.runs_indexed.specs.Indexed.{lettered_of, zeroed_of, indexed_of, indexed_at}

-- ---- its row

-- the row that the first unit opens, and that an item of it is accepted if all its sextets are known
record Row (a b c d n : ℕ) : Type 0 where
  row : IndexRow
  opens : indexed_opening a b c d ≡ Short (Indexed row) n
  accepts : (own : List ℕ) → sextet own 2 ≡ c → sextet own 3 ≡ d → Below 64 own → (inner : ℕ → ℕ → List ℕ → Verdict)
      → judge_kind (Indexed row) 1 own inner ≡ Accepted

-- 8 and 15 ask nothing
row-accepts : (row : IndexRow) (own : List ℕ) → zero_bits own (index_chars row) row.zeros ≡ true → ondex_right row (ondex_of row own) ≡ true
    → Below 64 own → (inner : ℕ → ℕ → List ℕ → Verdict) → judge_kind (Indexed row) 1 own inner ≡ Accepted
unfolding judge_kind behind unless and_then shift
row-accepts row own z o b inner = rw (scan-below (drop 4 own) (below-drop 64 4 own b), z, o)

letter-accepts : (letter current : ℕ) (own : List ℕ) → sextet own 2 < 4 → Below 64 own → (inner : ℕ → ℕ → List ℕ → Verdict)
    → judge_kind (Indexed (letter_indexed letter current)) 1 own inner ≡ Accepted
unfolding zero_bits ondex_right ondex_of
letter-accepts letter current own l b inner =
    row-accepts (letter_indexed letter current) own
    (zero-by 4 (sextet own 2) (sextet own 3) (sextet own 4) (omega arith) l (all-low own b 3) (all-low own b 4)) (either (eqb current 0)) b inner
  where
    either : (y : Bool) → pick y true true ≡ true
    either true = refl
    either false = refl

-- one digit
digit-none : (l : List ℕ) → get_or l 0 0 ≡ 0 → number_of 64 (take 1 l) ≡ 0
digit-none [] e = refl
digit-none (x ∷ l) e = omega arith

zero-accepts : (letter current : ℕ) (own : List ℕ) → (eqb current 0 ≡ false → sextet own 3 ≡ 0) → Below 64 own
    → (inner : ℕ → ℕ → List ℕ → Verdict) → judge_kind (Indexed (zero_indexed letter current)) 1 own inner ≡ Accepted
unfolding zero_bits ondex_right ondex_of
zero-accepts letter current own f b inner =
    row-accepts (zero_indexed letter current) own
    (zero-by 0 (sextet own 4) (sextet own 5) (sextet own 6) (omega arith) (all-low own b 4) (all-low own b 5) (all-low own b 6))
    (either (eqb current 0) f) b inner
  where
    either : (y : Bool) → (y ≡ false → sextet own 3 ≡ 0) → pick y true (eqb (number_of 64 (take 1 (drop 3 own))) 0) ≡ true
    either true g = refl
    either false g = eq-eqb (number_of 64 (take 1 (drop 3 own))) 0 (digit-none (drop 3 own) (get_or-drop 3 own 0 0 ∙ g refl))

letter-row : (a b c d n : ℕ) → a < 4 → lettered_of c ≡ n → 0 < n → Row a b c d n
unfolding lettered_of indexed_opening indexed_by indexed_among indexed_codes indexed_row index_head
letter-row a b c d n h e p = go a h
  where
    low : c < 4
    low = ltb-true c 4 (some_then (ltb c 4) 22 n e p).0

    is-n : 22 ≡ n
    is-n = (some_then (ltb c 4) 22 n e p).1

    of : (letter current : ℕ) → indexed_opening letter b c d ≡ Short (Indexed (letter_indexed letter current)) 22 → Row letter b c d n
    of letter current o = record {
      row = letter_indexed letter current;
      opens = o ∙ rw is-n;
      accepts = λ own x y k inner. letter-accepts letter current own (rw x low) k inner;
    }

    go : (a : ℕ) → a < 4 → Row a b c d n
    go zero h = of 0 0 refl
    go (suc zero) h = of 1 1 refl
    go (suc (suc zero)) h = of 2 0 refl
    go (suc (suc (suc zero))) h = of 3 1 refl
    go (suc (suc (suc (suc a)))) h = absurd (omega arith)

zero_row : (b c d n : ℕ) → zeroed_of b d ≡ n → 0 < n → Row 52 b c d n
unfolding zeroed_of indexed_opening indexed_by indexed_among indexed_codes indexed_row index_head
zero_row zero c d n e p = record {
  row = zero_indexed 0 0;
  opens = rw (← e);
  accepts = λ own x y k inner. zero-accepts 0 0 own (λ z. let q : ◌≡◌ {A = ℕ} 0 1 = cc in absurd (omega arith)) k inner;
}
zero_row (suc zero) c d n e p =
    let w = some_then (eqb d 0) 39 n e p in
    let d-is : d ≡ 0 = eqb-true d 0 w.0 in
    let n-is : 39 ≡ n = w.1 in
    record {
      row = zero_indexed 1 1;
      opens = rw (← n-is);
      accepts = λ own x y k inner. zero-accepts 1 1 own (λ z. y ∙ d-is) k inner;
    }
zero_row (suc (suc b)) c d n e p =
    absurd (omega (arith, rw (ne_eqb (suc (suc b)) 0 (λ z. omega arith), ne_eqb (suc (suc b)) 1 (λ z. omega arith)) at e))

told-row : (a b c d n : ℕ) → indexed_of a b c d ≡ n → 0 < n → Row a b c d n
unfolding indexed_of
told-row a b c d n e p = go (ltb a 4) (eqb a 52) refl refl e
  where
    go : (x y : Bool) → ltb a 4 ≡ x → eqb a 52 ≡ y → pick x (lettered_of c) (pick y (zeroed_of b d) 0) ≡ n → Row a b c d n
    go true y f g q = letter-row a b c d n (ltb-true a 4 f) q p
    go false true f g q = let z : a ≡ 52 = eqb-true a 52 g in rw z (zero_row b c d n q p)
    go false false f g q = absurd (omega arith)

-- ---- accepted

module _ (s : List ℕ) (l : ℕ) (stop : ℕ) (long : 4 * stop ≤ length s) where
  pub indexed-taken : (first : Bool) (at k to : ℕ) → indexed_at s at ≡ k → 0 < k → at + k ≤ stop → Clear s at to → at + k ≤ to
      → Taken s true l first at stop k
  unfolding ruled
  indexed-taken first at k to e p h b r =
      let x : List ℕ = part s at stop in
      let w = told-row (sextet x 0) (sextet x 1) (sextet x 2) (sextet x 3) k (told_part indexed_of s at stop k e p (omega arith)) p in
      let same : (i : ℕ) → i < 4 → sextet (part s at (at + k)) i ≡ sextet x i =
      λ i j. part-at s at (at + k) i (omega arith) ∙ sym (part-at s at stop i (omega arith)) in
      record {
        kind = Indexed w.row;
        head = 1;
        framed = next-short true first x (Indexed w.row) k (λ i j n. refl)
            (frame-short true x (Indexed w.row) k (part-head s at stop to b (omega arith) (omega arith)) w.opens p (in-part s l stop long at k h));
        judged = w.accepts (part s at (at + k)) (same 2 (omega arith)) (same 3 (omega arith))
            (clear-part s at to at (at + k) b (omega arith) r) (group l);
      }
