-- What a character and a clean block say of the first stranger. Assumes nothing.
use mathlib.Core.Path.{◌≡◌, refl}
use mathlib.Core.Bool.{true, false}
use mathlib.Core.List.{List, [], ◌∷◌}
use mathlib.Core.Logic.{⊎_elim}
use Prim.Native.Nat.{ℕ, zero, suc, ◌+◌, ◌<◌, ◌≤◌}
use native.Mathlib.Numerals.{add-one}
use native.Mathlib.Omega.{arith}
use lib.Bits.{bit_or, and_le_r, or_add_and}
use lib.Dec.{leb, ltb, eqb, eqb-suc-zero, leb-zero, leb-suc-zero, leb-suc-suc}
use lib.ListN.{length, get_or, drop, length-drop}
use lib.Seq.{drop-cons, drop-length, drop-drop, get_or-drop}
use borrow.Author.Tests.{lt-ltb, le-ltb, le-leb, ne_eqb, leb-true}
use Rattle.base.specs.Cases.{lt-or-ge}
use Rattle.base.specs.Table.{both}
use Rattle.format.specs.Alphabet.{sextet_of}
use Rattle.format.specs.Conversion.{first_stranger}

-- ---- the first stranger, a character at a time

pub known-here : (s : List ℕ) (i : ℕ) → i < length s → ltb (sextet_of (get_or s i 0)) 64 ≡ true
    → i + first_stranger (drop i s) ≡ (i + 1) + first_stranger (drop (i + 1) s)
unfolding first_stranger
known-here s i h k = rw (add-one, drop-cons s i 0 h, k) (omega arith)

pub stranger-here : (s : List ℕ) (i : ℕ) → i < length s → ltb (sextet_of (get_or s i 0)) 64 ≡ false → first_stranger (drop i s) ≡ 0
unfolding first_stranger
stranger-here s i h k = rw (drop-cons s i 0 h, k)

pub none_left : (s : List ℕ) (i : ℕ) → i ≡ length s → first_stranger (drop i s) ≡ 0
unfolding first_stranger
none_left s i e = rw (e, drop-length)

-- ---- a block at a time

-- two numbers have no bit set between them exactly if both are 0
none-set : (x y : ℕ) → eqb (bit_or x y) 0 ≡ both (eqb x 0) (eqb y 0)
none-set zero y = refl
none-set (suc x) y =
    rw (eqb-suc-zero x) (ne_eqb (bit_or (suc x) y) 0 (λ e. omega (arith, or_add_and (suc x) y, and_le_r (suc x) y)))

-- one more than j are known exactly if j are, and the next
known_more : (t : List ℕ) (j : ℕ) → j < length t
    → leb (suc j) (first_stranger t) ≡ both (leb j (first_stranger t)) (ltb (sextet_of (get_or t j 0)) 64)
unfolding first_stranger
known_more [] j h = absurd (omega arith)
known_more (c ∷ t) zero h =
    ⊎_elim (λ l. simp (lt-ltb (sextet_of c) 64 l, leb-zero) (le-leb 1 (suc (first_stranger t)) (omega arith)))
    (λ g. simp (le-ltb (sextet_of c) 64 g, leb-suc-zero, leb-zero))
    (lt-or-ge (sextet_of c) 64)
known_more (c ∷ t) (suc j) h =
    ⊎_elim (λ l. simp (lt-ltb (sextet_of c) 64 l, leb-suc-suc) (known_more t j (omega arith)))
    (λ g. simp (le-ltb (sextet_of c) 64 g, leb-suc-zero))
    (lt-or-ge (sextet_of c) 64)

pub block_more : (s : List ℕ) (at j bad x : ℕ) → at + j < length s
    → eqb bad 0 ≡ leb j (first_stranger (drop at s)) → eqb x 0 ≡ ltb (sextet_of (get_or s (at + j) 0)) 64
    → eqb (bit_or bad x) 0 ≡ leb (j + 1) (first_stranger (drop at s))
block_more s at j bad x h e k =
    let l : j < length (drop at s) = rw length-drop (omega arith) in
    rw (add-one j, none-set, known_more (drop at s) j l, get_or-drop, e, k)

-- what is left behind n that are known
passed : (t : List ℕ) (n : ℕ) → n ≤ first_stranger t → first_stranger t ≡ n + first_stranger (drop n t)
unfolding first_stranger
passed t zero h = omega arith
passed [] (suc n) h = absurd (omega arith)
passed (c ∷ t) (suc n) h =
    ⊎_elim (λ l. let e = lt-ltb (sextet_of c) 64 l in rw e (omega (arith, passed t n (omega (arith, rw e at h)))))
    (λ g. absurd (omega (arith, rw (le-ltb (sextet_of c) 64 g) at h)))
    (lt-or-ge (sextet_of c) 64)

pub clean-block : (s : List ℕ) (at n : ℕ) → leb n (first_stranger (drop at s)) ≡ true
    → at + first_stranger (drop at s) ≡ (at + n) + first_stranger (drop (at + n) s)
clean-block s at n e = rw (← drop-drop n at s) (omega (arith, passed (drop at s) n (leb-true _ _ e)))
