-- The rows alone: accepted and refused, and the refusal rows. Laws of a list of rows, no framing. Assumes nothing.
use Rattle.std.specs.Prelude.{ℕ, zero, suc, ◌+◌, ◌≤◌, ◌<◌, ◌≡◌, refl, List, [], ◌∷◌, ◌++◌, Bool, true, false, eqb}
use Rattle.std.proofs.Common.{ap, ◌∙◌, append-nil, length-append, eq-eqb, ne_eqb}
use native.Mathlib.Omega.{arith}
use Rattle.std.proofs.Math.ListN.{length}
use Rattle.format.specs.declared.Framed.{Framed}
use Rattle.format.specs.declared.Verdict.{Verdict}
use Rattle.format.specs.declared.Verdict.TheVariants.{Accepted, Refused}
use Rattle.base.specs.Pick.{pick}
use Rattle.format.specs.Cutting.{Cut, cut}
use Rattle.format.specs.Cutting.Cut.{done, stopped, item}
use Rattle.format.specs.Judging.{shift}
use Rattle.format.specs.Report.{ItemRow, RefusalRow, rows_of, remainder_of, refusal, refusals_of, rows, refusals, remainder, verdict_byte}
use Rattle.damage.specs.Words.{row, accepted, with_index}

-- ---- items are accepted or refused

-- a refusal's number is not 0
abbrev pub Numbered : Verdict → Type 0
Numbered Accepted = Unit {0}
Numbered (Refused n p) = 0 < n

abbrev pub AllNumbered : List ItemRow → Type 0
AllNumbered [] = Unit {0}
AllNumbered (r ∷ rs) = Numbered r.verdict × AllNumbered rs

one-refusal : (k : ℕ) (v : Verdict) → Numbered v → pick (eqb (verdict_byte v) 0) 1 0 + length (refusal k v) ≡ 1
unfolding refusal verdict_byte
one-refusal k Accepted h = refl
one-refusal k (Refused n p) h = rw (ne_eqb n 0 (λ e. omega arith))

counts_of : (k : ℕ) (rs : List ItemRow) → AllNumbered rs → length rs ≡ accepted rs + length (refusals_of k rs)
unfolding accepted refusals_of
counts_of k [] h = refl
counts_of k (r ∷ rs) h =
    omega (
      arith,
      counts_of (suc k) rs h.1,
      one-refusal k r.verdict h.0,
      length-append (refusal k r.verdict) (refusals_of (suc k) rs),
    )

pub shift-numbered : (o : ℕ) (v : Verdict) → Numbered v → Numbered (shift o v)
unfolding shift
shift-numbered o Accepted h = tt
shift-numbered o (Refused n p) h = h

module _ (judge : List ℕ → Verdict) (numbered : (xs : List ℕ) → Numbered (judge xs)) where
  all-numbered : (o : ℕ) (c : Cut) → AllNumbered (rows_of judge o c)
  unfolding rows_of
  all-numbered o done = tt
  all-numbered o (stopped n p r) = tt
  all-numbered o (item i c) = (shift-numbered o (judge i) (numbered i), all-numbered (o + length i) c)

  pub counts : (frame : List ℕ → Framed) (xs : List ℕ)
      → length (rows frame judge xs) ≡ accepted (rows frame judge xs) + length (refusals frame judge xs)
  unfolding refusals rows
  counts frame xs = counts_of 0 (rows_of judge 0 (cut frame xs)) (all-numbered 0 (cut frame xs))

-- ---- at most one remainder

one-remainder : (o : ℕ) (c : Cut) → length (remainder_of o c) ≤ 1
unfolding remainder_of
one-remainder o done = omega arith
one-remainder o (stopped n p r) = omega arith
one-remainder o (item i c) = one-remainder (o + length i) c

-- ---- the refusal rows: one for each refused item, in order, and no other

with_append : (k : ℕ) (rs ss : List RefusalRow) → with_index k (rs ++ ss) ≡ with_index k rs ++ with_index k ss
unfolding with_index
with_append k [] ss = refl
with_append k (r ∷ rs) ss = go (with_append k rs ss) (eqb r.index k)
  where
    go : with_index k (rs ++ ss) ≡ with_index k rs ++ with_index k ss → (b : Bool)
        → pick b (r ∷ with_index k (rs ++ ss)) (with_index k (rs ++ ss)) ≡ pick b (r ∷ with_index k rs) (with_index k rs) ++ with_index k ss
    go e true = ap (λ (l : List RefusalRow). r ∷ l) e
    go e false = e

with-cons : (k m : ℕ) (r : ItemRow) (rs : List ItemRow)
    → with_index k (refusals_of m (r ∷ rs)) ≡ with_index k (refusal m r.verdict) ++ with_index k (refusals_of (suc m) rs)
unfolding refusals_of
with-cons k m r rs = with_append k (refusal m r.verdict) (refusals_of (suc m) rs)

with-same : (k : ℕ) (v : Verdict) → with_index k (refusal k v) ≡ refusal k v
unfolding with_index refusal
with-same k Accepted = refl
with-same k (Refused n p) = rw (eq-eqb k k refl)

with-other : (k m : ℕ) (v : Verdict) → (m ≡ k → ⊥) → with_index k (refusal m v) ≡ []
unfolding with_index refusal
with-other k m Accepted d = refl
with-other k m (Refused n p) d = rw (ne_eqb m k d)

-- none of an index below the first
with-below : (k m : ℕ) (rs : List ItemRow) → k < m → with_index k (refusals_of m rs) ≡ []
unfolding with_index refusals_of
with-below k m [] h = refl
with-below k m (r ∷ rs) h =
    with-cons k m r rs ∙ rw (with-other k m r.verdict (λ e. omega arith), with-below k (suc m) rs (omega arith))

with_at : (m : ℕ) (rs : List ItemRow) (k : ℕ) → k < length rs → with_index (m + k) (refusals_of m rs) ≡ refusal (m + k) (row rs k).verdict
with_at m [] k h = absurd (omega arith)
with_at m (r ∷ rs) zero h =
    let z : m + 0 ≡ m = omega arith in
    rw z (with-cons m m r rs ∙ rw (with-same m r.verdict, with-below m (suc m) rs (omega arith), append-nil))
with_at m (r ∷ rs) (suc k) h =
    let z : m + suc k ≡ suc m + k = omega arith in
    rw z (with-cons (suc m + k) m r rs ∙ rw (with-other (suc m + k) m r.verdict (λ e. omega arith)) (with_at (suc m) rs k (omega arith)))

-- none of an index past the last
with-past : (m : ℕ) (rs : List ItemRow) (k : ℕ) → m + length rs ≤ k → with_index k (refusals_of m rs) ≡ []
unfolding with_index refusals_of
with-past m [] k h = refl
with-past m (r ∷ rs) k h =
    with-cons k m r rs ∙ rw (with-other k m r.verdict (λ e. omega arith), with-past (suc m) rs k (omega arith))

module _ (frame : List ℕ → Framed) (judge : List ℕ → Verdict) where
  -- of the refusal rows, those of item k: none where it is accepted, and else one, with its number and place
  pub refusal-rows : (xs : List ℕ) (k : ℕ) → k < length (rows frame judge xs)
      → with_index k (refusals frame judge xs) ≡ refusal k (row (rows frame judge xs) k).verdict
  unfolding refusals
  refusal-rows xs k h = let z : 0 + k ≡ k = omega arith in rw z at (with_at 0 (rows frame judge xs) k h)

  pub no-other-refusals : (xs : List ℕ) (k : ℕ) → length (rows frame judge xs) ≤ k → with_index k (refusals frame judge xs) ≡ []
  unfolding refusals
  no-other-refusals xs k h = with-past 0 (rows frame judge xs) k (omega arith)

  pub remainder-once : (xs : List ℕ) → length (remainder frame judge xs) ≤ 1
  unfolding remainder
  remainder-once xs = one-remainder 0 (cut frame xs)
