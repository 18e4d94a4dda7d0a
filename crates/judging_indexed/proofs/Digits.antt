-- A number is 0 exactly where its digits are. Assumes nothing.
use mathlib.Core.Path.{◌≡◌, refl, ap, sym, ◌∙◌}
use mathlib.Core.Bool.{true, false}
use mathlib.Core.List.{List, [], ◌∷◌}
use Prim.Native.Nat.{ℕ, zero, suc, ◌+◌, ◌*◌, ◌≤◌, ◌<◌}
use native.Mathlib.Omega.{arith}
use lib.Dec.{eqb}
use lib.ListN.{get_or, take, drop}
use lib.Seq.{get_or-drop}
use borrow.Author.Tests.{eq-eqb, ne_eqb}
use Rattle.base.specs.Digits.{onward, number_of}

-- what does not begin with 0 is not 0
begun : (a : ℕ) (l : List ℕ) → 0 < a → 0 < onward 64 a l
begun a [] h = h
begun a (x ∷ l) h = begun (a * 64 + x) l (omega arith)

digit-some : (a : ℕ) (l : List ℕ) (n k : ℕ) → k < n → (get_or l k 0 ≡ 0 → ⊥) → 0 < onward 64 a (take n l)
digit-some a l zero k h z = absurd (omega arith)
digit-some a [] (suc n) k h z = absurd (z refl)
digit-some a (x ∷ l) (suc n) zero h z = begun (a * 64 + x) (take n l) (omega arith)
digit-some a (x ∷ l) (suc n) (suc k) h z = digit-some (a * 64 + x) l n k (omega arith) z

digits-none : (l : List ℕ) (n : ℕ) → ((k : ℕ) → k < n → get_or l k 0 ≡ 0) → number_of 64 (take n l) ≡ 0
digits-none l zero f = refl
digits-none [] (suc n) f = refl
digits-none (x ∷ l) (suc n) f =
    let e : 0 * 64 + x ≡ 0 = omega (arith, f 0 (omega arith)) in
    ap (λ (a : ℕ). onward 64 a (take n l)) e ∙ digits-none l n (λ k h. f (suc k) (omega arith))

-- those from a place on
module _ (cs : List ℕ) (from n : ℕ) where
  pub some-digit : (k : ℕ) → k < n → (get_or cs (from + k) 0 ≡ 0 → ⊥) → false ≡ eqb (number_of 64 (take n (drop from cs))) 0
  some-digit k h z =
      sym (ne_eqb (number_of 64 (take n (drop from cs))) 0 (λ e. omega (arith, digit-some 0 (drop from cs) n k h (λ q. z (sym (get_or-drop from cs k 0) ∙ q)))))

  pub no_digit : (i : ℕ) → n ≤ i → ((k : ℕ) → k < i → get_or cs (from + k) 0 ≡ 0) → true ≡ eqb (number_of 64 (take n (drop from cs))) 0
  no_digit i h f = sym (eq-eqb _ 0 (digits-none (drop from cs) n (λ k l. get_or-drop from cs k 0 ∙ f k (omega arith))))
