-- Laws of the count of passes and of the call, one for each way through the code. Assumes nothing.
use Prim.Native.Nat.{ℕ, zero, suc, ◌+◌, ◌-◌, ◌*◌, ◌≤◌, ◌<◌, min}
use mathlib.Core.Path.{◌≡◌, refl, sym, ap, ◌∙◌}
use mathlib.Core.List.{List}
use mathlib.Core.Bool.{Bool, false}
use mathlib.Core.Logic.{⊎_elim}
use native.Mathlib.Omega.{arith}
use lib.ListN.{length, get_or, drop}
use lib.Seq.{get_or-drop}
use borrow.Author.Tests.{lt-ltb, le-ltb, eq-eqb, ne_eqb}
use Rattle.base.specs.Pick.{pick}
use Rattle.base.specs.Cases.{lt-or-ge}
use Rattle.std.specs.Prelude.{None, Some, Option, eqb}
use Rattle.std.specs.Option.{option_eq}
use Rattle.expectation.specs.declared.Verdicts as V
use Rattle.expectation.specs.Expectation.{Verdicts, malformed, verdicts, column}
use Rattle.expectation.specs.Expectation.{expected, reported}
use Rattle.comparison.specs.Comparing.{passed, failed, agree, counted, refused, compared_by, compared}
use Rattle.comparison.specs.Words.{count, passes}
use Rattle.expectation.specs.Bytes.{number_if, Says}
use Rattle.comparison.specs.Passing.{alike, Passing}
use Rattle.comparison.proofs.Counting.{passes-are, sum, column-length}

-- ---- columns

column-at : (w j n : ℕ) (xs : List ℕ) (i : ℕ) → i < n → get_or (column w j n xs) i 0 ≡ get_or xs (w * i + j) 0
unfolding column
column-at w j zero xs i h = absurd (omega arith)
column-at w j (suc n) xs zero h = let z : w * 0 + j ≡ j = omega arith in rw z
column-at w j (suc n) xs (suc i) h =
    let z : w + (w * i + j) ≡ w * suc i + j = omega arith in
    column-at w j n (drop w xs) i (omega arith) ∙ get_or-drop w xs (w * i + j) 0 ∙ ap (λ (k : ℕ). get_or xs k 0) z

-- ---- the count of passes

module _ (file rep : List ℕ) (n : ℕ) where
  pub none-passing : Passing file rep n 0 0
  unfolding count
  none-passing = record { within = omega arith; few = omega arith; counts = refl }

  module _ (i k : ℕ) (p : Passing file rep n i k) (l : i < n) where
    pub hit-passing : get_or file (4 + i) 0 ≡ get_or rep (12 + 9 * i) 0 → (m : ℕ) → m ≡ k + 1 → Passing file rep n (i + 1) m
    unfolding count
    hit-passing q m e =
        let z : i + 1 ≡ suc i = omega arith in
        record {
          within = omega arith;
          few = omega (arith, p.few);
          counts = rw (z, e, eq-eqb (get_or file (4 + i) 0) (get_or rep (12 + 9 * i) 0) q) (omega (arith, p.counts));
        }

    pub miss-passing : (get_or file (4 + i) 0 ≡ get_or rep (12 + 9 * i) 0 → ⊥) → (m : ℕ) → m ≡ k → Passing file rep n (i + 1) m
    unfolding count
    miss-passing q m e =
        let z : i + 1 ≡ suc i = omega arith in
        record {
          within = omega arith;
          few = omega (arith, p.few);
          counts = rw (z, e, ne_eqb (get_or file (4 + i) 0) (get_or rep (12 + 9 * i) 0) q) (omega (arith, p.counts));
        }

  pub all-passing : (i k : ℕ) → Passing file rep n i k → n ≤ i → (k ≡ count (alike file rep) n) × (k ≤ n)
  all-passing i k p h =
      let z : i ≡ n = omega (arith, p.within) in
      (p.counts ∙ ap (count (alike file rep)) z, omega (arith, p.few))

count-upto : (p q : ℕ → Bool) (b n : ℕ) → b ≤ n → ((i : ℕ) → i < b → p i ≡ q i) → ((i : ℕ) → b ≤ i → i < n → p i ≡ false) → count p n ≡ count q b
unfolding count
count-upto p q b zero l f g = let z : b ≡ 0 = omega arith in rw z
count-upto p q b (suc n) l f g =
    ⊎_elim (λ lt. let z : b ≡ suc n = omega arith in rw z (same n (λ i h. f i (omega arith))))
    (λ ge. rw (g n ge (omega arith)) (omega (arith, count-upto p q b n ge f (λ i h l. g i h (omega arith))))) (lt-or-ge n b)
  where
    same : (m : ℕ) → ((i : ℕ) → i < suc m → p i ≡ q i) → pick (p m) 1 0 + count p m ≡ pick (q m) 1 0 + count q m
    same zero e = rw (e 0 (omega arith))
    same (suc m) e = rw (e (suc m) (omega arith), same m (λ i h. e i (omega arith)))

module _ (file rep : List ℕ) (n m b k : ℕ) (w : b ≡ min n m) (e : (k ≡ count (alike file rep) b) × (k ≤ b)) where
  abbrev es : List ℕ
  es = column 1 0 n (drop 4 file)

  abbrev vs : List ℕ
  vs = column 9 8 m (drop 4 rep)

  es-length : length es ≡ n
  es-length = column-length 1 0 n (drop 4 file)

  vs-length : length vs ≡ m
  vs-length = column-length 9 8 m (drop 4 rep)

  hit : (i : ℕ) → i < b → passes es vs i ≡ alike file rep i
  hit i l =
      let p : get_or es i 0 ≡ get_or file (4 + i) 0 =
      column-at 1 0 n (drop 4 file) i (omega arith) ∙ get_or-drop 4 file (1 * i + 0) 0 ∙ ap (λ (j : ℕ). get_or file j 0) (omega arith) in
      let q : get_or vs i 0 ≡ get_or rep (12 + 9 * i) 0 =
      column-at 9 8 m (drop 4 rep) i (omega arith) ∙ get_or-drop 4 rep (9 * i + 8) 0 ∙ ap (λ (j : ℕ). get_or rep j 0) (omega arith) in
      rw (lt-ltb i (length vs) (omega (arith, vs-length)), p, q)

  miss : (i : ℕ) → b ≤ i → i < n → passes es vs i ≡ false
  miss i h l = rw (le-ltb i (length vs) (omega (arith, vs-length)))

  passed_is : passed es vs ≡ k
  passed_is =
      passes-are es vs ∙ ap (count (passes es vs)) es-length ∙ count-upto (passes es vs) (alike file rep) b n (omega arith) hit miss ∙ sym e.0

  unreached-is : n - m ≡ n - b
  unreached-is = omega arith

  beyond-is : m - n ≡ m - b
  beyond-is = omega arith

  failed-is : failed es vs ≡ b - k
  failed-is = omega (arith, sum es vs, passed_is, es-length, vs-length, unreached-is)

  pub counts-are : (g : Bool)
      → record { number = 0; place = 0; passed = k; failed = b - k; unreached = n - b; beyond = m - b; agree = g } ≡ counted es vs g
  counts-are g = rw (passed_is, failed-is, es-length, vs-length, unreached-is, beyond-is)

-- ---- remainders, and the call

-- two remainders are equal exactly where their numbers agree
pub same_agree : (a b : Option ℕ) → option_eq eqb a b ≡ agree (number_if a) (number_if b)
unfolding agree
same_agree None None = refl
same_agree None (Some n) = refl
same_agree (Some m) None = refl
same_agree (Some m) (Some n) = refl

no-verdicts : (a : Verdicts) → compared_by a malformed ≡ refused
unfolding compared_by
no-verdicts malformed = refl
no-verdicts (verdicts _ left) = refl

module _ (file rep : List ℕ) where
  pub no-file : Says (expected file) file 1 0 None → refused ≡ compared file rep
  unfolding compared compared_by
  no-file e = rw e

  pub no-report : Says (reported rep) rep 9 8 None → refused ≡ compared file rep
  unfolding compared
  no-report e = rw e (sym (no-verdicts (expected file)))

  pub both_say : (v w : V.Verdicts) → Says (expected file) file 1 0 (Some v) → Says (reported rep) rep 9 8 (Some w)
      → (g : Bool) → g ≡ agree (number_if v.remainder) (number_if w.remainder)
      → counted (column 1 0 v.items (drop 4 file)) (column 9 8 w.items (drop 4 rep)) g ≡ compared file rep
  unfolding compared compared_by
  both_say v w x y g a = rw (a, x.1, y.1)
