-- Laws of the verdicts that are looked at in turn, and of the answer, one for each way through the code. Assumes nothing.
use Prim.Native.Nat.{ℕ, suc, ◌+◌, ◌-◌, ◌*◌, ◌≤◌, ◌<◌}
use mathlib.Core.Path.{◌≡◌, refl, sym, ap, ◌∙◌}
use mathlib.Core.List.{List}
use mathlib.Core.Bool.{Bool, true, false}
use native.Mathlib.Omega.{arith}
use lib.ListN.{length, get_or, drop}
use lib.Seq.{get_or-drop, drop-drop}
use borrow.Author.Tests.{eq-eqb, ne_eqb}
use Rattle.std.specs.Prelude.{None, Some, Option}
use Rattle.std.specs.Option.{is_some}
use Rattle.base.specs.Pick.{pick}
use Rattle.expectation.specs.declared.Verdicts as V
use Rattle.expectation.specs.Bytes.{number_if, Says}
use Rattle.expectation.specs.Expectation.{verdicts, column, reported}
use Rattle.comparison.proofs.Counting.{column-length}
use Rattle.passing.specs.Passing.{are_accepted, passed_of, passed_by, passed_in}
use Rattle.passing.specs.Looked.{Looked}

-- ---- verdicts in turn

module _ (rep : List ℕ) (n : ℕ) where
  pub none-looked : Looked rep n 0
  none-looked =
      let z : n - 0 ≡ n = omega arith in
      record { within = omega arith; same = rw z }

  module _ (i : ℕ) (p : Looked rep n i) (l : i < n) where
    -- the verdict at i, and those behind it
    at : (b : Bool) → are_accepted (column 9 8 (suc (n - (i + 1))) (drop (4 + 9 * i) rep)) ≡ b → are_accepted (column 9 8 n (drop 4 rep)) ≡ b
    at b e = let z : n - i ≡ suc (n - (i + 1)) = omega arith in p.same ∙ rw z e

    verdict : get_or (drop (4 + 9 * i) rep) 8 0 ≡ get_or rep (12 + 9 * i) 0
    verdict = get_or-drop (4 + 9 * i) rep 8 0 ∙ ap (λ (k : ℕ). get_or rep k 0) (omega arith)

    pub one_more : get_or rep (12 + 9 * i) 0 ≡ 0 → Looked rep n (i + 1)
    unfolding are_accepted column
    one_more q =
        let z : 4 + 9 * i + 9 ≡ 4 + 9 * (i + 1) = omega arith in
        record {
          within = omega arith;
          same = at _ (rw (verdict, eq-eqb (get_or rep (12 + 9 * i) 0) 0 q, drop-drop 9 (4 + 9 * i) rep, z));
        }

    pub one-refused : (get_or rep (12 + 9 * i) 0 ≡ 0 → ⊥) → false ≡ are_accepted (column 9 8 n (drop 4 rep))
    unfolding are_accepted column
    one-refused q = sym (at false (rw (verdict, ne_eqb (get_or rep (12 + 9 * i) 0) 0 q)))

  pub all-looked : (i : ℕ) → Looked rep n i → n ≤ i → true ≡ are_accepted (column 9 8 n (drop 4 rep))
  unfolding are_accepted column
  all-looked i p h = let z : n - i ≡ 0 = omega arith in sym (p.same ∙ rw z)

-- ---- the answer

module _ (rep : List ℕ) (n : ℕ) where
  as_many : length (column 9 8 n (drop 4 rep)) ≡ n
  as_many = column-length 9 8 n (drop 4 rep)

  pub no_item : n ≡ 0 → false ≡ passed_of (length rep) (column 9 8 n (drop 4 rep))
  unfolding passed_of
  no_item q = rw (as_many, eq-eqb n 0 q)

  pub longer : 4 + 9 * n ≤ length rep → (n ≡ 0 → ⊥) → (length rep - 9 * n ≡ 12 → ⊥) → false ≡ passed_of (length rep) (column 9 8 n (drop 4 rep))
  unfolding passed_of
  longer h p q = rw (as_many, ne_eqb n 0 p, ne_eqb (length rep) (12 + 9 * n) (λ e. q (omega arith)))

  pub by-verdicts : 4 + 9 * n ≤ length rep → (n ≡ 0 → ⊥) → length rep - 9 * n ≡ 12 → (r : Bool) → r ≡ are_accepted (column 9 8 n (drop 4 rep))
      → r ≡ passed_of (length rep) (column 9 8 n (drop 4 rep))
  unfolding passed_of
  by-verdicts h p q r e = rw (as_many, ne_eqb n 0 p, eq-eqb (length rep) (12 + 9 * n) (omega arith)) e

-- a remainder decides before the verdicts do
by_remainder : (size : ℕ) (vs : List ℕ) (r : Option ℕ)
    → record { number = 0; passed = pick (is_some r) false (passed_of size vs) } ≡ passed_by size (verdicts vs (number_if r))
unfolding passed_by
by_remainder size vs None = refl
by_remainder size vs (Some n) = refl

module _ (rep : List ℕ) where
  pub no-report : Says (reported rep) rep 9 8 None → record { number = 20; passed = false } ≡ passed_in rep
  unfolding passed_in passed_by
  no-report e = rw e

  pub by-report : (v : V.Verdicts) → Says (reported rep) rep 9 8 (Some v) → (b : Bool) → b ≡ is_some v.remainder
      → record { number = 0; passed = pick b false (passed_of (length rep) (column 9 8 v.items (drop 4 rep))) } ≡ passed_in rep
  unfolding passed_in
  by-report v told b e = rw (told.1, e) (by_remainder (length rep) (column 9 8 v.items (drop 4 rep)) v.remainder)
