-- Laws of the counts: each counts the indices of its cases, and the sums. Assumes nothing.
use Rattle.std.specs.Prelude.{ℕ, zero, suc, ◌+◌, ◌-◌, ◌≡◌, refl, List, [], ◌∷◌, Bool, true, false, ltb, eqb, length, drop}
use Rattle.std.proofs.Common.{sym, ap, ◌∙◌, ⊎_elim, arith, lt-ltb, le-ltb}
use Rattle.base.specs.Pick.{pick}
use Rattle.base.specs.Cases.{lt-or-ge}
use Rattle.expectation.specs.Expectation.{column}
use Rattle.comparison.specs.Comparing.{passed, failed, not_reached, beyond}
use Rattle.comparison.specs.Words.{count, passes, fails, misses}

-- ---- counting

count_same : (p q : ℕ → Bool) (n : ℕ) → ((i : ℕ) → p i ≡ q i) → count p n ≡ count q n
unfolding count
count_same p q zero e = refl
count_same p q (suc n) e = rw (e n, count_same p q n e)

count-front : (p : ℕ → Bool) (n : ℕ) → count p (suc n) ≡ pick (p 0) 1 0 + count (λ i. p (suc i)) n
unfolding count
count-front p zero = refl
count-front p (suc n) =
    let z : pick (p (suc n)) 1 0 + (pick (p 0) 1 0 + count (λ i. p (suc i)) n) ≡ pick (p 0) 1 0 + (pick (p (suc n)) 1 0 + count (λ i. p (suc i)) n) =
    omega arith in
    ap (λ (k : ℕ). pick (p (suc n)) 1 0 + k) (count-front p n) ∙ z

none_pass : (p : ℕ → Bool) (n : ℕ) → ((i : ℕ) → p i ≡ false) → count p n ≡ 0
unfolding count
none_pass p zero e = refl
none_pass p (suc n) e = rw (e n, none_pass p n e)

later : (i n : ℕ) → ltb (suc i) (suc n) ≡ ltb i n
later i n = ⊎_elim (λ l. rw (lt-ltb i n l) (lt-ltb (suc i) (suc n) (omega arith))) (λ g. rw (le-ltb i n g) (le-ltb (suc i) (suc n) (omega arith))) (lt-or-ge i n)

pub passes-are : (es vs : List ℕ) → passed es vs ≡ count (passes es vs) (length es)
unfolding passed count
passes-are [] vs = refl
passes-are (e ∷ es) [] = sym (none_pass (passes (e ∷ es) []) (suc (length es)) (λ i. rw (le-ltb i 0 (omega arith))))
passes-are (e ∷ es) (v ∷ vs) =
    sym (count-front (passes (e ∷ es) (v ∷ vs)) (length es)
    ∙ rw (
      lt-ltb 0 (suc (length vs)) (omega arith),
      count_same (λ i. passes (e ∷ es) (v ∷ vs) (suc i)) (passes es vs) (length es) (λ i. rw (later i (length vs))),
      passes-are es vs,
    ))

pub fails-are : (es vs : List ℕ) → failed es vs ≡ count (fails es vs) (length es)
unfolding failed count
fails-are [] vs = refl
fails-are (e ∷ es) [] = sym (none_pass (fails (e ∷ es) []) (suc (length es)) (λ i. rw (le-ltb i 0 (omega arith))))
fails-are (e ∷ es) (v ∷ vs) =
    sym (count-front (fails (e ∷ es) (v ∷ vs)) (length es)
    ∙ rw (
      lt-ltb 0 (suc (length vs)) (omega arith),
      count_same (λ i. fails (e ∷ es) (v ∷ vs) (suc i)) (fails es vs) (length es) (λ i. rw (later i (length vs))),
      fails-are es vs,
    )
    (turned (eqb e v)))
  where
    turned : (b : Bool) → pick (pick b false true) 1 0 + count (fails es vs) (length es) ≡ pick b 0 1 + count (fails es vs) (length es)
    turned true = refl
    turned false = refl

pub misses-are : (vs : List ℕ) (n : ℕ) → n - length vs ≡ count (misses vs) n
unfolding count
misses-are vs zero = omega arith
misses-are vs (suc n) =
    ⊎_elim (λ l. rw (lt-ltb n (length vs) l) (omega (arith, misses-are vs n))) (λ g. rw (le-ltb n (length vs) g) (omega (arith, misses-are vs n)))
    (lt-or-ge n (length vs))

-- ---- sums

one_way : (b : Bool) → pick b 1 0 + pick b 0 1 ≡ 1
one_way true = refl
one_way false = refl

pub sum : (es vs : List ℕ) → passed es vs + failed es vs + not_reached es vs ≡ length es
unfolding passed failed
sum [] vs = omega arith
sum (e ∷ es) [] = omega arith
sum (e ∷ es) (v ∷ vs) = omega (arith, sum es vs, one_way (eqb e v))

pub items : (es vs : List ℕ) → passed es vs + failed es vs + beyond es vs ≡ length vs
unfolding passed failed
items [] vs = omega arith
items (e ∷ es) [] = omega arith
items (e ∷ es) (v ∷ vs) = omega (arith, items es vs, one_way (eqb e v))

-- ---- rows

pub column-length : (width j n : ℕ) (xs : List ℕ) → length (column width j n xs) ≡ n
unfolding column
column-length width j zero xs = refl
column-length width j (suc n) xs = ap suc (column-length width j n (drop width xs))
