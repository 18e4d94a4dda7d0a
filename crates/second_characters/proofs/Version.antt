-- The six digits of `AAACAA`, as looks along the characters tell them. Assumes nothing.
use mathlib.Core.Path.{◌≡◌, refl, ◌∙◌}
use mathlib.Core.Bool.{Bool, true, false, ◌&&◌}
use mathlib.Core.List.{List}
use mathlib.Core.Logic.{⊎_elim}
use Prim.Native.Nat.{ℕ, ◌+◌, ◌*◌, ◌<◌, ◌≤◌}
use native.Mathlib.Omega.{arith}
use lib.Dec.{eqb}
use borrow.Author.Tests.{eq-eqb, eqb-true, eqb-false}
use Rattle.base.specs.Cases.{lt-or-ge, whether}
use Rattle.format.specs.Framing.{sextet, digits4, is_ours}
use Rattle.second_characters.specs.Found.{Below, First, Known8}

all-zero : (s : List ℕ) (from to r : ℕ) → First s from to 1 r → from ≤ to → Below s 1 from to → r ≡ to
all-zero s from to r F h b =
    ⊎_elim (λ lt. absurd (omega (arith, F.stops lt, b r F.low lt))) (λ ge. omega (arith, F.high h)) (lt-or-ge r to)

three : (s : List ℕ) (i : ℕ) → sextet s i ≡ 0 → sextet s (i + 1) ≡ 0 → sextet s (i + 2) ≡ 0 → Below s 1 i (i + 3)
three s i a b c k l m =
    ⊎_elim
    (λ x. let z : k ≡ i = omega arith in rw z (omega arith))
    (λ x. ⊎_elim
    (λ y. let z : k ≡ i + 1 = omega arith in rw z (omega arith))
    (λ y. let z : k ≡ i + 2 = omega arith in rw z (omega arith))
    (lt-or-ge k (i + 2)))
    (lt-or-ge k (i + 1))

two : (s : List ℕ) (i : ℕ) → sextet s i ≡ 0 → sextet s (i + 1) ≡ 0 → Below s 1 i (i + 2)
two s i a b k l m =
    ⊎_elim
    (λ x. let z : k ≡ i = omega arith in rw z (omega arith))
    (λ x. let z : k ≡ i + 1 = omega arith in rw z (omega arith))
    (lt-or-ge k (i + 1))

not-all : (p q r : Bool) → (p ≡ true → q ≡ true → r ≡ true → ⊥) → (p && q) && r ≡ false
not-all true true true f = absurd (f refl refl refl)
not-all true true false f = refl
not-all true false r f = refl
not-all false q r f = refl

-- `AAACAA` by its six digits
pub ours : (s : List ℕ) (a b : ℕ) → First s 2 5 1 a → First s 6 8 1 b → (x : ℕ) → x ≡ sextet s 5 → Known8 s
    → (eqb a 5 && eqb x 2) && eqb b 8 ≡ is_ours (sextet s)
unfolding is_ours
ours s a b A B x e k = ⊎_elim yes no (whether (eqb ((sextet s 2 * 64 + sextet s 3) * 16777216 + digits4 (sextet s)) 8192))
  where
    few : (i : ℕ) → i < 8 → sextet s i < 64
    few i l = k i (omega arith) l

    yes : eqb ((sextet s 2 * 64 + sextet s 3) * 16777216 + digits4 (sextet s)) 8192 ≡ true
        → (eqb a 5 && eqb x 2) && eqb b 8 ≡ eqb ((sextet s 2 * 64 + sextet s 3) * 16777216 + digits4 (sextet s)) 8192
    yes q =
        let n : (sextet s 2 * 64 + sextet s 3) * 16777216 + digits4 (sextet s) ≡ 8192 = eqb-true _ 8192 q in
        let f2 : sextet s 2 < 64 = few 2 (omega arith) in
        let f3 : sextet s 3 < 64 = few 3 (omega arith) in
        let f4 : sextet s 4 < 64 = few 4 (omega arith) in
        let f5 : sextet s 5 < 64 = few 5 (omega arith) in
        let f6 : sextet s 6 < 64 = few 6 (omega arith) in
        let f7 : sextet s 7 < 64 = few 7 (omega arith) in
        let z2 : sextet s 2 ≡ 0 = omega arith in
        let z3 : sextet s 3 ≡ 0 = omega arith in
        let z4 : sextet s 4 ≡ 0 = omega arith in
        let z5 : sextet s 5 ≡ 2 = omega arith in
        let z6 : sextet s 6 ≡ 0 = omega arith in
        let z7 : sextet s 7 ≡ 0 = omega arith in
        let za : a ≡ 5 = all-zero s 2 5 a A (omega arith) (three s 2 z2 z3 z4) in
        let zb : b ≡ 8 = all-zero s 6 8 b B (omega arith) (two s 6 z6 z7) in
        rw (q, eq-eqb a 5 za, eq-eqb x 2 (e ∙ z5), eq-eqb b 8 zb)

    no : eqb ((sextet s 2 * 64 + sextet s 3) * 16777216 + digits4 (sextet s)) 8192 ≡ false
        → (eqb a 5 && eqb x 2) && eqb b 8 ≡ eqb ((sextet s 2 * 64 + sextet s 3) * 16777216 + digits4 (sextet s)) 8192
    no q =
        rw q (not-all (eqb a 5) (eqb x 2) (eqb b 8) (λ ta tx tb.
        let ea : a ≡ 5 = eqb-true a 5 ta in
        let eb : b ≡ 8 = eqb-true b 8 tb in
        let z2 : sextet s 2 < 1 = A.below 2 (omega arith) (omega arith) in
        let z3 : sextet s 3 < 1 = A.below 3 (omega arith) (omega arith) in
        let z4 : sextet s 4 < 1 = A.below 4 (omega arith) (omega arith) in
        let z6 : sextet s 6 < 1 = B.below 6 (omega arith) (omega arith) in
        let z7 : sextet s 7 < 1 = B.below 7 (omega arith) (omega arith) in
        eqb-false ((sextet s 2 * 64 + sextet s 3) * 16777216 + digits4 (sextet s)) 8192 q (omega (arith, e, eqb-true x 2 tx))))
