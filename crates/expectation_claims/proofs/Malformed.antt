-- 20 by the bytes alone: a section from a place on is there or cut, and so with the file and the report. Assumes nothing.
use Rattle.std.specs.Prelude.{ℕ, suc, ◌+◌, ◌-◌, ◌*◌, ◌%◌, ◌≤◌, ◌<◌, ◌≡◌, refl, List, [], ◌∷◌, ◌++◌, ◌⊎◌, length, take, drop}
use Rattle.std.proofs.Common.{inl, inr, ⊎_elim, arith, length-drop, length-append, drop-drop, lt-ltb, le-ltb}
use Rattle.base.specs.Cases.{lt-or-ge}
use Rattle.format.specs.Report.{be4}
use Rattle.expectation.specs.Expectation.{short, rows, count_at, section_of, Verdicts, malformed, verdicts, ending}
use Rattle.expectation.specs.Expectation.{expected_by, expected, behind_items, reported_by, reported}
use Rattle.comparison.specs.Comparing.{refused, compared_by, compared}
use Rattle.expectation_claims.specs.Words.{end_of, Cut, BadEnd, BadFile, BadReport}
use Rattle.expectation_claims.proofs.Sections.{four, count_of}

-- ---- one section

abbrev Laid : ℕ → List ℕ → ℕ → Type 0
Laid w xs from =
    (end_of w xs from ≤ length xs) × (section_of w (drop from xs)
    ≡ rows (count_at (drop from xs)) (take (w * count_at (drop from xs)) (drop 4 (drop from xs))) (drop (end_of w xs from) xs))

laid : (w : ℕ) (xs : List ℕ) (from : ℕ) → from ≤ length xs
    → (Cut w xs from × (section_of w (drop from xs) ≡ short)) ⊎ Laid w xs from
unfolding section_of
laid w xs from h =
    ⊎_elim (λ l. inl (inl (omega (arith, length-drop from xs)), rw (lt-ltb (length (drop from xs)) 4 l)))
    (λ g. ⊎_elim
    (λ l. inl (
      inr (omega (arith, length-drop from xs, length-drop 4 (drop from xs))),
      rw (le-ltb (length (drop from xs)) 4 g, lt-ltb (length (drop 4 (drop from xs))) (w * count_at (drop from xs)) l),
    ))
    (λ k. inr (
      omega (arith, length-drop from xs, length-drop 4 (drop from xs)),
      rw (
        le-ltb (length (drop from xs)) 4 g,
        le-ltb (length (drop 4 (drop from xs))) (w * count_at (drop from xs)) k,
        drop-drop 4 from xs,
        drop-drop (w * count_at (drop from xs)) (from + 4) xs,
      ),
    ))
    (lt-or-ge (length (drop 4 (drop from xs))) (w * count_at (drop from xs))))
    (lt-or-ge (length (drop from xs)) 4)

either : {A B : Type 0} → (A → ⊥) → (B → ⊥) → A ⊎ B → ⊥
either f g (inl a) = f a
either f g (inr b) = g b

uncut : (w : ℕ) (xs : List ℕ) (from : ℕ) → end_of w xs from ≤ length xs → Cut w xs from → ⊥
uncut w xs from h (inl l) = omega arith
uncut w xs from h (inr l) = omega arith

-- ---- the last one

-- malformed exactly where it is bad
abbrev pub Told : Type 0 → Verdicts → Type 0
Told Bad v = (Bad × (v ≡ malformed)) ⊎ ((Bad → ⊥) × (v ≡ malformed → ⊥))

pub told-bad : {Bad : Type 0} {v : Verdicts} → Told Bad v → Bad → v ≡ malformed
told-bad (inl p) b = p.1
told-bad (inr p) b = absurd (p.0 b)

pub bad-told : {Bad : Type 0} {v : Verdicts} → Told Bad v → v ≡ malformed → Bad
bad-told (inl p) e = p.0
bad-told (inr p) e = absurd (p.1 e)

well-made : (es left : List ℕ) → verdicts es left ≡ malformed → ⊥
well-made es left e = let z : ◌≡◌ {A = ℕ} 0 1 = cc in omega arith

at-end : (w j : ℕ) (vs xs body : List ℕ) (from : ℕ) → end_of w xs from ≤ length xs → (rest : List ℕ) → length rest ≡ length xs - end_of w xs from
    → Told (BadEnd w xs from) (ending w j vs (rows (count_at (drop from xs)) body rest))
unfolding ending
at-end w j vs xs body from h (y ∷ rest) e = inl (inr (inr (omega arith)), refl)
at-end w j vs xs body from h [] e =
    ⊎_elim (λ l. inl (inr (inl l), rw (lt-ltb 1 (count_at (drop from xs)) l)))
    (λ g. inr (good g, λ q. well-made vs _ (rw (le-ltb 1 (count_at (drop from xs)) g) at q)))
    (lt-or-ge 1 (count_at (drop from xs)))
  where
    good : count_at (drop from xs) ≤ 1 → BadEnd w xs from → ⊥
    good g (inl c) = uncut w xs from h c
    good g (inr (inl l)) = omega arith
    good g (inr (inr l)) = omega arith

last-told : (w j : ℕ) (vs xs : List ℕ) (from : ℕ) → from ≤ length xs
    → Told (BadEnd w xs from) (ending w j vs (section_of w (drop from xs)))
unfolding ending
last-told w j vs xs from h =
    ⊎_elim (λ c. inl (inl c.0, rw c.1))
    (λ g. rw g.1 (at-end w j vs xs _ from g.0 (drop (end_of w xs from) xs) (length-drop (end_of w xs from) xs)))
    (laid w xs from h)

-- ---- the file and the report

file-told : (xs : List ℕ) → Told (BadFile xs) (expected xs)
unfolding expected expected_by
file-told xs =
    ⊎_elim (λ c. inl (inl c.0, rw c.1))
    (λ g. ⊎_elim (λ b. inl (inr b.0, rw g.1 b.1)) (λ b. inr (either (uncut 1 xs 0 g.0) b.0, rw g.1 b.1))
    (last-told 1 0 _ xs (end_of 1 xs 0) g.0))
    (laid 1 xs 0 (omega arith))

behind-told : (vs xs : List ℕ) (from : ℕ) → from ≤ length xs
    → Told (Cut 9 xs from ⊎ BadEnd 5 xs (end_of 9 xs from)) (behind_items vs (section_of 9 (drop from xs)))
unfolding behind_items
behind-told vs xs from h =
    ⊎_elim (λ c. inl (inl c.0, rw c.1))
    (λ g. ⊎_elim (λ b. inl (inr b.0, rw g.1 b.1)) (λ b. inr (either (uncut 9 xs from g.0) b.0, rw g.1 b.1))
    (last-told 5 4 vs xs (end_of 9 xs from) g.0))
    (laid 9 xs from h)

pub report-told : (xs : List ℕ) → Told (BadReport xs) (reported xs)
unfolding reported reported_by
report-told xs =
    ⊎_elim (λ c. inl (inl c.0, rw c.1))
    (λ g. ⊎_elim (λ b. inl (inr b.0, rw g.1 b.1)) (λ b. inr (either (uncut 9 xs 0 g.0) b.0, rw g.1 b.1))
    (behind-told _ xs (end_of 9 xs 0) g.0))
    (laid 9 xs 0 (omega arith))

-- ---- 20

no-report : (a b : Verdicts) → b ≡ malformed → compared_by a b ≡ refused
unfolding compared_by
no-report malformed b e = refl
no-report (verdicts es left) b e = rw e

no-file : (a b : Verdicts) → a ≡ malformed → compared_by a b ≡ refused
unfolding compared_by
no-file a b e = rw e

pub twenty : (file rep : List ℕ) → BadFile file ⊎ BadReport rep → compared file rep ≡ refused
unfolding compared
twenty file rep (inl b) = no-file (expected file) (reported rep) (told-bad (file-told file) b)
twenty file rep (inr b) = no-report (expected file) (reported rep) (told-bad (report-told rep) b)

only-by : (a b : Verdicts) (n : ℕ) → (compared_by a b).number ≡ suc n → (a ≡ malformed) ⊎ (b ≡ malformed)
unfolding compared_by
only-by malformed b n e = inl refl
only-by (verdicts es left) malformed n e = inr refl
only-by (verdicts es left) (verdicts vs over) n e = absurd (omega arith)

pub only-twenty : (file rep : List ℕ) (n : ℕ) → (compared file rep).number ≡ suc n → BadFile file ⊎ BadReport rep
unfolding compared
only-twenty file rep n e =
    ⊎_elim (λ a. inl (bad-told (file-told file) a)) (λ b. inr (bad-told (report-told rep) b)) (only-by (expected file) (reported rep) n e)

-- ---- wider rows: what is read as three sections is as long as their counts say

upwards : (a b : ℕ) → (a < b → ⊥) → b ≤ a
upwards a b h = ⊎_elim (λ l. absurd (h l)) (λ g. g) (lt-or-ge a b)

abbrev refusals_from : List ℕ → ℕ
refusals_from xs = end_of 9 xs 0

abbrev remainder_from : List ℕ → ℕ
remainder_from xs = end_of 9 xs (refusals_from xs)

length-by : (xs : List ℕ) → (BadReport xs → ⊥)
    → (length xs ≡ 12 + 9 * count_at xs + 9 * count_at (drop (refusals_from xs) xs) + 5 * count_at (drop (remainder_from xs) xs))
    × (count_at (drop (remainder_from xs) xs) ≤ 1)
length-by xs h =
    let e : end_of 5 xs (remainder_from xs) ≤ length xs = upwards _ _ (λ l. h (inr (inr (inl (inr l))))) in
    let f : length xs ≤ end_of 5 xs (remainder_from xs) = upwards _ _ (λ l. h (inr (inr (inr (inr l))))) in
    let o : count_at (drop (remainder_from xs) xs) ≤ 1 = upwards _ _ (λ l. h (inr (inr (inr (inl l))))) in
    (omega arith, o)

pub wider : (n m k : ℕ) (file body rest : List ℕ) → n < 4294967296 → length body ≡ 10 * n → length rest ≡ 8 + 9 * m + 5 * k → k ≤ 1
    → (n % 9 ≡ 0 → ⊥) → (n % 9 ≡ 4 → ⊥) → (n % 9 ≡ 5 → ⊥) → compared file ((be4 n ++ body) ++ rest) ≡ refused
wider n m k file body rest few b r one z f v =
    let xs : List ℕ = (be4 n ++ body) ++ rest in
    ⊎_elim (λ p. twenty file xs (inr p.0))
    (λ p.
    let q = length-by xs p.0 in
    absurd (nines n m k (count_at (drop (refusals_from xs) xs)) (count_at (drop (remainder_from xs) xs)) one q.1
    (omega (arith, q.0, count_of n body rest few, size)) z f v))
    (report-told xs)
  where
    size : length ((be4 n ++ body) ++ rest) ≡ 4 + 10 * n + (8 + 9 * m + 5 * k)
    size = rw (length-append, length-append, b, r, four n)

    rest_of : (n x r : ℕ) → r < 9 → n ≡ 9 * x + r → n % 9 ≡ r
    rest_of n x r l e = omega arith

    nines : (n m k p q : ℕ) → k ≤ 1 → q ≤ 1 → n + 9 * m + 5 * k ≡ 9 * p + 5 * q → (n % 9 ≡ 0 → ⊥) → (n % 9 ≡ 4 → ⊥) → (n % 9 ≡ 5 → ⊥) → ⊥
    nines n m k p q a b e z f v =
        ⊎_elim (λ l. ⊎_elim (λ s. z (rest_of n (p - m) 0 (omega arith) (omega arith))) (λ s. v (let h : m ≤ p = omega arith in rest_of n (p - m) 5 (omega arith) (omega arith))) (lt-or-ge q 1))
        (λ l. ⊎_elim (λ s. f (let h : suc m ≤ p = omega arith in rest_of n (p - m - 1) 4 (omega arith) (omega arith))) (λ s. z (rest_of n (p - m) 0 (omega arith) (omega arith))) (lt-or-ge q 1))
        (lt-or-ge k 1)
